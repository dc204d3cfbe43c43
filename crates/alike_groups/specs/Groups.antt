-- Groups of equal elements of a list.
use Rattle.std.specs.Prelude.{ℕ, ◌≡◌, ◌-◌, ◌^◌, List, Bool, count_by, filter, map, nat_le, take}
use Rattle.std.specs.Prelude.{IsPermutation}
use Rattle.std.specs.List.{position_or_len}
use Rattle.std.specs.List.Sorted.{IsSortedByKey}
use Rattle.std.specs.Ordering.{nat_cmp, ordering_then}
use Rattle.std.specs.declared.cmp.Ordering.{Ordering}
use Rattle.trace_types.specs.Firsts.{firsts_of}
use Rattle.alike_groups.specs.declared.group.Group.{Group}

module _ {K : Type 0} (same : K → K → Bool) where
  -- the elements that are equal to this one: the index of the first, and how many there are
  abbrev pub group_of : List K → K → Group
  group_of xs k = record { first = position_or_len (same k) xs; count = count_by (same k) xs }

  -- a group for each different element, in the order of first sight
  abbrev pub groups_of : List K → List Group
  groups_of xs = map (group_of xs) (firsts_of same xs)

-- how far a group is from the greatest number of elements, and where its first element stands
abbrev pub size_key : Group → ℕ × ℕ
size_key g = (2 ^ 64 - 1 - g.count, g.first)

-- by the first number, and of equal ones by the second
abbrev pub pair_order : ℕ × ℕ → ℕ × ℕ → Ordering
pair_order k l = ordering_then (nat_cmp k.0 l.0) (nat_cmp k.1 l.1)

-- of groups of at least so many elements the first ones, at most so many, by falling count, and of
-- equal counts by first sight
pub record AreGreatest (least most : ℕ) (groups told : List Group) : Type 0 where
  pub sorted : List Group
  pub same : IsPermutation (filter (λ (g : Group). nat_le least g.count) groups) sorted
  pub order : IsSortedByKey size_key pair_order sorted
  pub are : told ≡ take most sorted
