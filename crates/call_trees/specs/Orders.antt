-- Keys in rising order.
use Rattle.std.specs.Prelude.{ℕ, ◌≡◌, ◌<◌, ◌+◌, List, Some, false, slice_get, slice_index, IsPermutation}
use Rattle.std.specs.Prelude.{length}
use Rattle.std.specs.List.{range_with_len}
use Rattle.std.specs.Ordering.{is_lt}
use Rattle.std.specs.declared.cmp.Ordering.{Ordering}

-- the indexes of keys, each once, such that their keys rise; equal keys stand in any order
pub record AreInOrder {K : Type 0} (cmp : K → K → Ordering) (keys : List K) (order : List ℕ) : Type 0 where
  pub all : IsPermutation (range_with_len 0 (length keys)) order
  pub rise : (i : ℕ) (a b : K) → i + 1 < length order → slice_get keys (slice_index order i) ≡ Some a
      → slice_get keys (slice_index order (i + 1)) ≡ Some b → is_lt (cmp b a) ≡ false
