-- The numbers of texts in a map whose keys are ordered.
use Rattle.std.specs.Prelude.{◌≡◌, ◌↔◌, ℕ, List, Option, Some, slice_get}
use Rattle.std.specs.BTreeMap.{BTreeMap, get}
use Rattle.std.specs.Cmp.Lexicographic.{slice_cmp}
use Rattle.std.specs.Ordering.{nat_cmp, ordering_then}
use Rattle.std.specs.declared.cmp.Ordering.{Ordering}
use Rattle.event_table.specs.Digests.{digest_of}

-- a text behind its digest
abbrev pub key_of : List ℕ → ℕ × List ℕ
key_of text = (digest_of text, text)

-- by the digests first, and by the texts where these are equal
abbrev pub key_cmp : ℕ × List ℕ → ℕ × List ℕ → Ordering
key_cmp a b = ordering_then (nat_cmp a.0 b.0) (slice_cmp nat_cmp a.1 b.1)

-- what the map has for a text
abbrev pub number_in : BTreeMap (ℕ × List ℕ) ℕ → List ℕ → Option ℕ
number_in numbers text = get key_cmp numbers (key_of text)

-- the map has the number of each text, and of no other one
abbrev pub IsNumbering : List (List ℕ) → BTreeMap (ℕ × List ℕ) ℕ → Type 0
IsNumbering texts numbers = (text : List ℕ) (i : ℕ) → (slice_get texts i ≡ Some text)
    ↔ (number_in numbers text ≡ Some i)
