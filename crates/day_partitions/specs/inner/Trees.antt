-- What a contract sees of a tree of meets.
use Rattle.std.specs.Prelude.{◌≡◌, ℕ, ◌<◌, ◌↔◌, List, [], length, Option, Some, None}
use Rattle.std.specs.Prelude.{IsNone, IsSome, max, map}
use Rattle.std.specs.Prelude.{Any, get_or, slice_set, unwrap_or}
use Rattle.std.specs.Option.{option_map}
use Rattle.word_rows.specs.Words.{bit_of, IsCommon, widened_words as widened}

-- the number of words of a row, 64 leaves of which some are missing, and how many rows are spare
pub record TreeState : Type 0 where
  pub width : ℕ
  pub leaves : List (Option (List ℕ))
  pub spare : ℕ

-- the tree with these fields
abbrev pub tree : ℕ → List (Option (List ℕ)) → ℕ → TreeState
tree width leaves spare = record { width = width; leaves = leaves; spare = spare }

-- a bit of the words of a leaf; a missing leaf stands for full words, so its bits are 1
abbrev pub leaf_bit : ℕ → ℕ → Option (List ℕ) → ℕ
leaf_bit i b None = 1
leaf_bit i b (Some words) = bit_of words i b

-- what the leaves have in common: a bit is 0 exactly where it is 0 in some leaf
pub record AreCommon (leaves : List (Option (List ℕ))) (words : List ℕ) : Type 0 where
  pub bits : (i b : ℕ) → i < length words → b < 64
      → (bit_of words i b ≡ 0) ↔ Any (λ leaf. leaf_bit i b leaf ≡ 0) leaves

-- the tree with at least n rows spare
abbrev pub with_spare_rows : TreeState → ℕ → TreeState
with_spare_rows t n = tree t.width t.leaves (max t.spare n)

-- the tree at a greater width: each leaf has full words after its own
abbrev pub widened_tree : TreeState → ℕ → ℕ → TreeState
widened_tree t width more =
    tree width (map (option_map (λ words. widened words more)) t.leaves) t.spare

-- the leaf is there
abbrev pub IsThere : List (Option (List ℕ)) → ℕ → Type 0
IsThere leaves slot = IsSome (get_or leaves slot None)

-- there is no such leaf
abbrev pub IsMissing : List (Option (List ℕ)) → ℕ → Type 0
IsMissing leaves slot = IsNone (get_or leaves slot None)

-- the words of a leaf, or none where it is missing
abbrev pub leaf_words : List (Option (List ℕ)) → ℕ → List ℕ
leaf_words leaves slot = unwrap_or (get_or leaves slot None) []

-- the leaf is met with words, and nothing else is changed
pub record IsMetLeaf (t : TreeState) (slot : ℕ) (words : List ℕ) (u : TreeState) : Type 0 where
  pub met : IsCommon (leaf_words t.leaves slot) words (leaf_words u.leaves slot)
  pub others : u ≡ tree t.width (slice_set t.leaves slot (Some (leaf_words u.leaves slot))) t.spare
