use Rattle.std.proofs.Common.{◌≡◌, ℕ, ◌<◌, get_or, None, is_some, true}
use Rattle.day_partitions.proofs.tree.Tree.missing.Given as goal

abbrev pub invariant-leaves : goal.invariant-leaves
invariant-leaves l = (k : ℕ) → k < l.slot → is_some (get_or l.self-inside.leaves.items k None) ≡ true
