use Rattle.std.proofs.Common.{◌≡◌, ◌*◌, ◌≤◌, sum, take}
use Rattle.weighted_dag.proofs.dag.Dag.total_with.Given as goal

abbrev pub invariant-vertices : goal.invariant-vertices
invariant-vertices l =
    (l.total ≡ sum (take l.vertex l.weights)) × (l.total ≤ l.vertex * 18446744073709551616)
