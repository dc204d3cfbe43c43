-- Ways that lead from each number of a group down to the least.
use Rattle.std.specs.Prelude.{ℕ, ◌≡◌, ◌<◌, ◌≤◌, List, length, slice_index}

-- from each number the next one is no greater
abbrev pub AreFalling : List ℕ → Type 0
AreFalling next = (x : ℕ) → x < length next → slice_index next x ≤ x

-- from each number ways lead to the one that its group is named by
pub record AreTrees (next groups : List ℕ) : Type 0 where
  pub size : length groups ≡ length next
  pub falls : AreFalling next
  pub same : (x : ℕ) → x < length next → slice_index groups (slice_index next x) ≡ slice_index groups x
  pub ends : (x : ℕ) → x < length next → slice_index next x ≡ x → slice_index groups x ≡ x
