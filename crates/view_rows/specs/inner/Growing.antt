-- What a loop appends to a list of pairs.
use Rattle.std.specs.Prelude.{◌≡◌, List, ◌++◌}
use Rattle.std.specs.declared.cmp.Ordering.{Ordering}
use Rattle.trace_types.specs.Listing.{ListsExactly}

-- the new list is the old one and then exactly the elements with P, each once, in rising order
pub record AppendsExactly {X : Type 0} (cmp : X → X → Ordering) (P : X → Type 0) (old new : List X)
    : Type 0 where
  pub row : List X
  pub joined : new ≡ old ++ row
  pub lists : ListsExactly cmp P row
