-- The grammar of the arguments: `FILE...`.
use Rattle.std.specs.Prelude.{ℕ, ◌&&◌, ◌^◌, List, Bool, length, nat_lt}
use Rattle.std.specs.List.{list_all}
use Rattle.line_clean.specs.CommandLines.{is_filled}

-- the arguments are in the grammar: one file or more, fewer than 2^30
abbrev pub is_in_grammar : List (List ℕ) → Bool
is_in_grammar words =
    nat_lt 0 (length words) && (nat_lt (length words) (2 ^ 30) && list_all is_filled words)
