use Rattle.std.proofs.Common.{◌≡◌, ℕ, Option, None, replicate}
use Rattle.clock_offsets.proofs.search.no_depths.Given as goal

abbrev pub invariant-loop-at : goal.invariant-loop-at
invariant-loop-at l = l.depths.items ≡ replicate {A = Option ℕ} l._at None
