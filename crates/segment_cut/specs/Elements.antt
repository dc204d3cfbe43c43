-- The data element that an event's name gives.
use Rattle.std.specs.Prelude.{◌≡◌, ℕ, ◌<◌, ◌==◌, Bool, Option, Some, None, List, [], ◌∷◌, ◌++◌}
use Rattle.std.specs.Prelude.{length, Contains}
use Rattle.std.specs.List.{after_first}

-- the character `@`
abbrev pub at_sign : ℕ
at_sign = 64

-- the element is the text after the first `@` of the name, and not empty
abbrev pub IsElementOf : List ℕ → List ℕ → Type 0
IsElementOf name element = (prefix : List ℕ) × (name ≡ prefix ++ at_sign ∷ element)
    × (Contains prefix at_sign → ⊥) × (0 < length element)

-- the element of a name, or None where it has none
abbrev pub HasElement : List ℕ → Option (List ℕ) → Type 0
HasElement name None = (element : List ℕ) → IsElementOf name element → ⊥
HasElement name (Some element) = IsElementOf name element

-- the character is `@`
abbrev pub is_at_sign : ℕ → Bool
is_at_sign c = c == at_sign

-- the text, if it is not empty
abbrev pub unless_empty : List ℕ → Option (List ℕ)
unless_empty [] = None
unless_empty (c ∷ rest) = Some (c ∷ rest)

-- the same element, computed: what stands after the first `@` of the name, where that is not empty
abbrev pub element_in : List ℕ → Option (List ℕ)
element_in name = unless_empty (after_first is_at_sign name)
