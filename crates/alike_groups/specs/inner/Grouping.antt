-- How groups grow, element by element.
use Rattle.std.specs.Prelude.{ℕ, ◌≡◌, ◌+◌, ◌==◌, List, Bool, Option, Some, None, count_by}
use Rattle.std.specs.Prelude.{if◌then◌else◌}
use Rattle.indexmap.specs.IndexMap.{IndexMap, get, keys}
use Rattle.trace_types.specs.Firsts.{firsts_of}
use Rattle.alike_groups.specs.Groups.{group_of}
use Rattle.alike_groups.specs.declared.group.Group.{Group}

-- a group with one element more, or the group of the element at this index alone
abbrev pub group_with : Option Group → ℕ → Group
group_with (Some g) index = record { first = g.first; count = g.count + 1 }
group_with None index = record { first = index; count = 1 }

-- the group of a key, where there is one
abbrev pub group_if : {K : Type 0} → (K → K → Bool) → List K → K → Option Group
group_if same xs k = if count_by (same k) xs == 0 then None else Some (group_of same xs k)

-- the keys are the different elements, and each has its group
pub record AreGrouped {K S : Type 0} (same : K → K → Bool) (xs : List K)
    (groups : IndexMap K Group S) : Type 0 where
  pub keys_are : keys groups ≡ firsts_of same xs
  pub each : (k : K) → get same groups k ≡ group_if same xs k
