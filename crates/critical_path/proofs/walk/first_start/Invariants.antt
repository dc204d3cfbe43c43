use Rattle.std.proofs.Common.{◌≢◌, ℕ, ◌<◌, map, get_or}
use Rattle.critical_path.proofs.walk.first_start.Given as goal

abbrev pub invariant-starts : goal.invariant-starts
invariant-starts g l =
    (k : ℕ) → k < l.vertex → get_or (map g.L.Length.value l.lengths) k 0 ≢ g.L.Length.value l.longest
