-- The grammar of the arguments: `FILE...`.
use Rattle.std.specs.Prelude.{ℕ, ◌==◌, ◌&&◌, List, Bool, length, nat_lt, not}
use Rattle.std.specs.List.{list_all}

-- a file is any argument that is not empty
abbrev pub is_filled : List ℕ → Bool
is_filled word = not (length word == 0)

-- the arguments are in the grammar: one file or more
abbrev pub is_in_grammar : List (List ℕ) → Bool
is_in_grammar words = nat_lt 0 (length words) && list_all is_filled words
