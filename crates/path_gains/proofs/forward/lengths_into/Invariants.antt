use Rattle.std.proofs.Common.{map}
use Rattle.slack.proofs.IntoLemmas.{IsPassedBelow}
use Rattle.path_gains.proofs.forward.lengths_into.Given as goal

abbrev pub invariant-vertices : goal.invariant-vertices
invariant-vertices g l = IsPassedBelow l.dag l.vertex (map g.L.Length.value l.lengths.items)
