-- What rows name: two of a list, by their places in it, counted from 0.
use Rattle.std.specs.Prelude.{◌≡◌, ◌≢◌, ◌↔◌, List, Contains, AllPairs, Some, slice_get}
use Rattle.std.specs.List.{AllZip}
use Rattle.evidence_rules.specs.declared.pair_row.PairRow.{PairRow}

-- the row names these two of the list
abbrev pub NamesTwo : {X F : Type 0} → List X → PairRow F → X × X → Type 0
NamesTwo xs row pair =
    (slice_get xs row.first ≡ Some pair.0) × (slice_get xs row.second ≡ Some pair.1)

-- row by row these are the two that rows name
abbrev pub NameInTurn : {X F : Type 0} → List X → List (PairRow F) → List (X × X) → Type 0
NameInTurn xs rows pairs = AllZip (NamesTwo xs) rows pairs

-- the rows name exactly the pairs with the property, each in one row
pub record NameExactly {X F : Type 0} (xs : List X) (P : X × X → Type 0) (rows : List (PairRow F))
    : Type 0 where
  pub pairs : List (X × X)
  pub named : NameInTurn xs rows pairs
  pub differ : AllPairs (λ p q. p ≢ q) pairs
  pub exactly : (p : X × X) → Contains pairs p ↔ P p
