use Rattle.std.proofs.Common.{◌≡◌, ℕ, ◌+◌, ◌-◌, ◌<◌, length, map, get_or}
use Rattle.slack.proofs.growth.measure.Given as goal

abbrev pub invariant-vertices : goal.invariant-vertices
invariant-vertices g l =
    (length l.slacks.items ≡ l.vertex) × ((k : ℕ) → k < l.vertex → get_or l.slacks.items k 0 ≡ g.L.Length.value l.longest - (get_or (map g.L.Length.value l.into.items) k 0 + get_or (map g.L.Length.value l.from.items) k 0))
