-- The names of contexts in their threads: those of one thread that have one base are numbered in the
-- order of contexts.
use Rattle.std.specs.Prelude.{ℕ, ◌==◌, ◌&&◌, List, Bool, length, map, slice_index}
use Rattle.std.specs.Str.{bytes_eq}
use Rattle.call_trees.specs.Ordinals.{ordinals_of}
use Rattle.context_names.specs.Numbers.{base_at, numbered_names}
use Rattle.context_names.specs.Scattering.{scattered}

-- what labels are numbered by
pub record Label : Type 0 where
  pub thread : ℕ
  pub base : List ℕ

abbrev pub label_eq : Label → Label → Bool
label_eq a b = a.thread == b.thread && bytes_eq a.base b.base

-- what the label of the context with this number is numbered by
abbrev pub label_at : (threads : List ℕ) (bases : List (List ℕ)) → ℕ → Label
label_at threads bases x = record { thread = slice_index threads x; base = base_at bases x }

-- the number of each context among those of its thread with its base
abbrev pub label_numbers : (order threads : List ℕ) (bases : List (List ℕ)) → List ℕ
label_numbers order threads bases =
    scattered (length bases) order (ordinals_of label_eq (map (label_at threads bases) order))

-- the names of contexts, by their bases
abbrev pub labels_of : (order threads : List ℕ) (bases : List (List ℕ)) → List (List ℕ)
labels_of order threads bases = numbered_names bases (label_numbers order threads bases)
