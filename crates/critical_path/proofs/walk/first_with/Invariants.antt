use Rattle.std.proofs.Common.{◌≢◌, All, map, get_or, take}
use Rattle.critical_path.proofs.walk.first_with.Given as goal

abbrev pub invariant-indices : goal.invariant-indices
invariant-indices g l =
    All (λ i. get_or (map g.L.Length.value l.lengths) i 0 ≢ g.L.Length.value l.left) (take l.index-index l.indices)
