-- Which pairs are told, and in which order. Names and tasks are given by their places in two lists,
-- counted from 0; the lists stand in the order of the names and of the tasks.
use Rattle.std.specs.Prelude.{◌≡◌, ◌≢◌, ◌↔◌, ℕ, ◌*◌, ◌<◌, ◌==◌, nat_lt, nat_le, not, Bool, true, false}
use Rattle.std.specs.Prelude.{◌&&◌, if◌then◌else◌, List, [], ◌∷◌, length, map, flat_map}
use Rattle.std.specs.Prelude.{slice_get, Some, Option, option_map}
use Rattle.std.specs.List.{AllZip, filter, range_with_len, zip}
use Rattle.std.specs.Ordering.{nat_cmp, ordering_then}
use Rattle.std.specs.declared.cmp.Ordering.{Ordering}
use Rattle.trace_types.specs.Listing.{ListsExactly}
use Rattle.evidence_rules.specs.Reaching.{IsImplied}
use Rattle.evidence_rules.specs.declared.between.Between.{Between}
use Rattle.evidence_rules.specs.declared.choice.Choice.{Choice}
use Rattle.evidence_rules.specs.declared.pair_row.PairRow.{PairRow}
use Rattle.evidence_rules.specs.declared.sharing.Sharing.{Sharing}

-- some, and at most one in a hundred
abbrev pub are_few : ℕ → ℕ → Bool
are_few refuted traces = nat_lt 0 refuted && nat_le (100 * refuted) traces

-- the first of two names happens before the second: some trace has both, and none refutes it
abbrev pub is_order : ℕ → ℕ → Between → Bool
is_order a b f = not (a == b) && (nat_lt 0 f.traces && (f.early == 0))

-- two names, in name order, are mutually exclusive with no fixed order
abbrev pub is_exclusion : ℕ → ℕ → Between → Bool
is_exclusion a b f = nat_lt a b && ((nat_lt 0 f.traces && (f.both == 0))
    && (nat_lt 0 f.early && nat_lt 0 f.turned))

-- few traces refute that the first happens before the second
abbrev pub is_nearly_order : ℕ → ℕ → Between → Bool
is_nearly_order a b f = not (a == b) && are_few f.early f.traces

-- few traces refute that two names, in name order, are mutually exclusive
abbrev pub is_nearly_exclusion : ℕ → ℕ → Between → Bool
is_nearly_exclusion a b f = nat_lt a b && are_few f.both f.traces

-- elements pass from the first task to the second: some trace has one in both, and none refutes it
abbrev pub is_pipe : ℕ → ℕ → Sharing → Bool
is_pipe t u f = not (t == u) && (nat_lt 0 f.traces && (f.refuted == 0))

-- few traces refute it
abbrev pub is_nearly_pipe : ℕ → ℕ → Sharing → Bool
is_nearly_pipe t u f = not (t == u) && are_few f.refuted f.traces

-- which pairs of places are told by their figures
abbrev pub Listing : Type 0 → Type 0
Listing F = ℕ → ℕ → F → Bool

-- those alone that so many traces support; `traces` tells how many do
abbrev pub supported : {F : Type 0} → (F → ℕ) → ℕ → Listing F → Listing F
supported traces least is a b f = is a b f && nat_le least (traces f)

-- the pairs of places below a number that are told, by the first and then by the second
abbrev pub rows_where : {F : Type 0} → (ℕ → ℕ → F) → Listing F → ℕ → List (PairRow F)
rows_where figures is count =
    flat_map (λ a. flat_map (λ b. if is a b (figures a b)
    then record { first = a; second = b; figures = figures a b } ∷ [] else [])
    (range_with_len 0 count)) (range_with_len 0 count)

-- the places of a row
abbrev pub places_of : {F : Type 0} → PairRow F → ℕ × ℕ
places_of row = (row.first, row.second)

-- the rows without those that are implied by others
pub record AreReduced {F : Type 0} (rows left : List (PairRow F)) : Type 0 where
  pub implied : List Bool
  pub told : AllZip (λ row v. (v ≡ true) ↔ IsImplied (map places_of rows) row.first row.second)
      rows implied
  pub are : left ≡ map (λ x. x.0) (filter (λ x. not x.1) (zip rows implied))

-- the indices of rows with their supports, the most first, and of equal supports the lower index
abbrev pub by_support : ℕ × ℕ → ℕ × ℕ → Ordering
by_support x y = ordering_then (nat_cmp y.0 x.0) (nat_cmp x.1 y.1)

-- the rows in the order of their support, most first; rows of equal support stand as before
pub record AreBySupport {F : Type 0} (traces : F → ℕ) (rows sorted : List (PairRow F)) : Type 0
  where
    pub order : List (ℕ × ℕ)
    pub lists : ListsExactly by_support (λ x. (row : PairRow F)
        × (slice_get rows x.1 ≡ Some row) × (traces row.figures ≡ x.0)) order
    pub are : map Some sorted ≡ map (λ x. slice_get rows x.1) order

-- the rows of each kind
pub record Rows : Type 0 where
  pub orders : List (PairRow Between)
  pub exclusions : List (PairRow Between)
  pub pipes : List (PairRow Sharing)
  pub nearly_orders : List (PairRow Between)
  pub nearly_exclusions : List (PairRow Between)
  pub nearly_pipes : List (PairRow Sharing)

-- of so many names with figures between them those that are told, by support
abbrev pub AreNameRows : Choice → ℕ → (ℕ → ℕ → Between) → Listing Between
    → List (PairRow Between) → Type 0
AreNameRows choice names between is rows = AreBySupport (λ (f : Between). f.traces)
    (rows_where between (supported (λ (f : Between). f.traces) choice.least is) names) rows

-- of so many tasks likewise
abbrev pub AreTaskRows : Choice → ℕ → (ℕ → ℕ → Sharing) → Listing Sharing
    → List (PairRow Sharing) → Type 0
AreTaskRows choice tasks sharing is rows = AreBySupport (λ (f : Sharing). f.traces)
    (rows_where sharing (supported (λ (f : Sharing). f.traces) choice.least is) tasks) rows

-- of orders those that are printed: where rows are to be reduced those that are not implied, and
-- else all
abbrev pub AreOrdersLeft : Bool → List (PairRow Between) → List (PairRow Between) → Type 0
AreOrdersLeft true rows left = AreReduced rows left
AreOrdersLeft false rows left = left ≡ rows

-- the orders of so many names that are printed, by support
pub record AreOrderRows (choice : Choice) (names : ℕ) (between : ℕ → ℕ → Between)
    (rows : List (PairRow Between)) : Type 0 where
  pub left : List (PairRow Between)
  pub are_left : AreOrdersLeft choice.reduced
      (rows_where between (supported (λ (f : Between). f.traces) choice.least is_order) names) left
  pub sorted : AreBySupport (λ (f : Between). f.traces) left rows

-- these are the rows of so many names and tasks with these figures
pub record AreRows (choice : Choice) (names tasks : ℕ) (between : ℕ → ℕ → Between)
    (sharing : ℕ → ℕ → Sharing) (rows : Rows) : Type 0 where
  pub orders : AreOrderRows choice names between rows.orders
  pub exclusions : AreNameRows choice names between is_exclusion rows.exclusions
  pub pipes : AreTaskRows choice tasks sharing is_pipe rows.pipes
  pub nearly_orders : AreNameRows choice names between is_nearly_order rows.nearly_orders
  pub nearly_exclusions :
      AreNameRows choice names between is_nearly_exclusion rows.nearly_exclusions
  pub nearly_pipes : AreTaskRows choice tasks sharing is_nearly_pipe rows.nearly_pipes
