use Rattle.trace_graph.proofs.RenamedLemmas.{same_graph}
use Rattle.trace_graph.proofs.laws.renamed_graph_is_the_same.Goals as goal

pub returns : goal.returns
returns g c = λ p q names tasks traces others trace other order graph one_n one_t each renamed.
    same_graph p q names tasks traces others trace other ((c.renamed_traces_leave_alike.ensures.relations p q names tasks traces others one_n one_t each).exclusive.survives) renamed order graph
