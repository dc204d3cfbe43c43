-- Names of one base, told apart by numbers.
use Rattle.std.specs.Prelude.{ℕ, List, [], None, length, map, slice_index, slice_index_or}
use Rattle.std.specs.Str.{bytes_eq}
use Rattle.span_names.specs.Names.{numbered}
use Rattle.call_trees.specs.Ordinals.{ordinals_of}
use Rattle.call_trees.specs.Tables.{table_of}
use Rattle.context_names.specs.Scattering.{scattered}

-- the base with this number
abbrev pub base_at : List (List ℕ) → ℕ → List ℕ
base_at bases x = slice_index_or bases x []

-- which of those with its base each of these numbers is, in this order
abbrev pub base_numbers : List (List ℕ) → (order : List ℕ) → List ℕ
base_numbers bases order =
    scattered (length bases) order (ordinals_of bytes_eq (map (base_at bases) order))

-- the names with these bases and numbers
abbrev pub numbered_names : List (List ℕ) → (numbers : List ℕ) → List (List ℕ)
numbered_names bases numbers =
    table_of (λ x. numbered (base_at bases x) (slice_index numbers x) None) (length bases)
