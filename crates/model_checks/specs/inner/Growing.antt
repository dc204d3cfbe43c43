-- What the loops of this crate add to a list.
use Rattle.std.specs.Prelude.{◌≡◌, ◌≢◌, ◌↔◌, ◌⊎◌, ◌+◌, ◌≤◌, List, ◌++◌, length, Contains, AllPairs}
use Rattle.std.specs.declared.cmp.Ordering.{Ordering}
use Rattle.trace_types.specs.Listing.{ListsExactly}

-- the new list has the elements of the old one and of `more`, and none twice unless the old one has
pub record AddsDistinct {X : Type 0} (more old new : List X) : Type 0 where
  pub differ : AllPairs (λ x y. x ≢ y) old → AllPairs (λ x y. x ≢ y) new
  pub same : (x : X) → Contains new x ↔ (Contains old x ⊎ Contains more x)
  pub few : length new ≤ length old + length more

-- the new list is the old one and then exactly the elements with P, each once, in rising order
pub record AppendsExactly {X : Type 0} (cmp : X → X → Ordering) (P : X → Type 0) (old new : List X)
    : Type 0 where
  pub row : List X
  pub joined : new ≡ old ++ row
  pub lists : ListsExactly cmp P row
