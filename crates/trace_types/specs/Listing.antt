-- Lists that have exactly some elements, how many things have a property, and how many different
-- elements a list has.
use Rattle.std.specs.Prelude.{◌≡◌, ◌≢◌, ◌↔◌, ℕ, List, length, Contains, AllPairs}
use Rattle.std.specs.declared.cmp.Ordering.{Ordering}
use Rattle.std.specs.declared.cmp.Ordering.TheVariants.{Less}

-- the list has exactly the elements with P, each once, in rising order
pub record ListsExactly {X : Type 0} (cmp : X → X → Ordering) (P : X → Type 0) (xs : List X)
    : Type 0 where
  pub rising : AllPairs (λ x y. cmp x y ≡ Less) xs
  pub exactly : (x : X) → Contains xs x ↔ P x

-- exactly n have the property P: some list has just these, each once, and its length is n
pub record AreExactly {X : Type 0} (P : X → Type 0) (n : ℕ) : Type 0 where
  pub all : List X
  pub differ : AllPairs (λ x y. x ≢ y) all
  pub exactly : (x : X) → Contains all x ↔ P x
  pub count : length all ≡ n

-- the list has n different elements
abbrev pub CountsDistinct : {X : Type 0} → ℕ → List X → Type 0
CountsDistinct {X} n xs = AreExactly (λ (x : X). Contains xs x) n
