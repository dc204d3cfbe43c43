-- Texts with their numbers, in rising order of the texts.
use Rattle.std.specs.Prelude.{◌≡◌, ◌≢◌, ◌↔◌, ℕ, ◌<◌, Bool, List, Contains, All, AllPairs, Some, slice_get}
use Rattle.std.specs.declared.cmp.Ordering.{Ordering}
use Rattle.std.specs.declared.cmp.Ordering.TheVariants.{Less}
use Rattle.kept_names.specs.Marking.{IsMarked}

-- the item is a text and the number at which it stands in a list
abbrev pub HasNumber : {X : Type 0} → List X → X × ℕ → Type 0
HasNumber texts item = slice_get texts item.1 ≡ Some item.0

-- the items rise by their texts, and are exactly the texts whose numbers are marked
pub record ListsMarked {X : Type 0} (cmp : X → X → Ordering) (texts : List X) (marks : List Bool)
    (items : List (X × ℕ)) : Type 0 where
  pub rising : AllPairs (λ i j. cmp i.0 j.0 ≡ Less) items
  pub exactly : (item : X × ℕ) → Contains items item ↔ (HasNumber texts item × IsMarked marks item.1)

-- the items rise by their texts, no two have one number, and all numbers are below the limit
pub record AreItemsBelow {X : Type 0} (cmp : X → X → Ordering) (limit : ℕ) (items : List (X × ℕ))
    : Type 0 where
  pub rising : AllPairs (λ i j. cmp i.0 j.0 ≡ Less) items
  pub apart : AllPairs (λ i j. i.1 ≢ j.1) items
  pub below : All (λ (i : X × ℕ). i.1 < limit) items

-- R holds of the numbers that two texts have in the items
abbrev pub HoldsOfTexts : {X : Type 0} → List (X × ℕ) → (ℕ → ℕ → Type 0) → X → X → Type 0
HoldsOfTexts items R x y = (a : ℕ) × (b : ℕ) × Contains items (x, a) × Contains items (y, b) × R a b
