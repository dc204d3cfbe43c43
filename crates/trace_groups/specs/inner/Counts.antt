-- How many traces that begin with one name have another, by the numbers of names.
use Rattle.std.specs.Prelude.{ℕ, ◌≡◌, ◌<◌, ◌*◌, ◌&&◌, List, Bool, All, count_by, map, nat_le}
use Rattle.std.specs.Prelude.{unwrap_or}
use Rattle.indexmap.specs.IndexMap.{IndexMap, get, keys}
use Rattle.event_table.specs.Texts.{TextLists}
use Rattle.trace_types.specs.Batch.{PlainTrace}
use Rattle.trace_groups.specs.inner.Names.{IsKnown, IsNumbered, begins_with, has_name, is_name}

-- the two pairs of names are equal
abbrev pub is_row : (ℕ × ℕ) × (ℕ × ℕ) → (ℕ × ℕ) × (ℕ × ℕ) → Bool
is_row a b = is_name a.0 b.0 && is_name a.1 b.1

-- how often a pair was counted
abbrev pub count_in : {S : Type 0} → IndexMap ((ℕ × ℕ) × (ℕ × ℕ)) ℕ S → (ℕ × ℕ) × (ℕ × ℕ) → ℕ
count_in counts row = unwrap_or (get is_row counts row) 0

-- how often a name was counted
abbrev pub total_in : {S : Type 0} → IndexMap (ℕ × ℕ) ℕ S → ℕ × ℕ → ℕ
total_in totals name = unwrap_or (get is_name totals name) 0

-- nine of ten traces that begin with the first name have the second
abbrev pub is_usual_row : {S : Type 0} → IndexMap ((ℕ × ℕ) × (ℕ × ℕ)) ℕ S → (ℕ × ℕ) × (ℕ × ℕ)
    → Bool
is_usual_row counts row = nat_le (9 * count_in counts (row.0, row.0)) (10 * count_in counts row)

-- the traces are numbered, and the names of these are counted
pub record AreCounted {S : Type 0} (texts : TextLists) (traces : List PlainTrace)
    (counts : IndexMap ((ℕ × ℕ) × (ℕ × ℕ)) ℕ S) : Type 0 where
  pub numbered : All (IsNumbered texts) traces
  pub known : (row : (ℕ × ℕ) × (ℕ × ℕ)) → 0 < count_in counts row
      → IsKnown texts row.0 × IsKnown texts row.1
  pub exactly : (row : (ℕ × ℕ) × (ℕ × ℕ)) → IsKnown texts row.0 → IsKnown texts row.1
      → count_in counts row
      ≡ count_by (λ t. begins_with texts row.0 t && has_name texts row.1 t) traces

-- these are how many names are usual, by the name with which traces begin
abbrev pub AreTotals : {S U : Type 0} → IndexMap ((ℕ × ℕ) × (ℕ × ℕ)) ℕ S → IndexMap (ℕ × ℕ) ℕ U
    → Type 0
AreTotals counts totals = (name : ℕ × ℕ) → total_in totals name
    ≡ count_by (λ row. is_name name row.0 && is_usual_row counts row) (keys counts)
