use Rattle.trace_graph.proofs.ToldLemmas.{told_graph}
use Rattle.trace_graph.proofs.laws.bits_tell_graphs.Goals as goal

pub returns : goal.returns
returns c = λ model traces trace order g tells left below graph. told_graph model trace tells below traces left order g graph
