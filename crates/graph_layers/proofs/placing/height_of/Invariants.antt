use Rattle.std.proofs.Common.{ℕ, ◌<◌, ◌≤◌, ◌+◌}
use Rattle.graph_layers.specs.Places.{place_at}
use Rattle.graph_layers.proofs.placing.height_of.Given as goal

-- it is below the places so far
abbrev pub invariant-places : goal.invariant-places
invariant-places l = (a : ℕ) → a < l.index → (place_at l.places a).y + 64 ≤ l.height
