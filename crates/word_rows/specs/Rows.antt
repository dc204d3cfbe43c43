-- Rows: which bits of which words they clear. Words are counted from 0, and the bits of a word from
-- 0, the lowest, to 63.
use Rattle.std.specs.Prelude.{◌≡◌, ℕ, Bool, true, false, not, ◌&&◌, ◌||◌, ◌==◌, nat_lt, List, [], ◌∷◌, map, length}
use Rattle.std.specs.Cmp.Lexicographic.{pointwise}
use Rattle.std.specs.List.{list_any, list_all}
use Rattle.std.specs.Int.{bit_at}
use Rattle.word_rows.specs.declared.entries.Entry.{Entry}

-- each number is below all that follow it
abbrev pub is_rising : List ℕ → Bool
is_rising [] = true
is_rising (n ∷ ns) = list_all (λ m. nat_lt n m) ns && is_rising ns

-- the one entry (0, 0), which clears nothing
abbrev pub is_blank : List Entry → Bool
is_blank [] = false
is_blank (e ∷ []) = e.word == 0 && e.mask == 0
is_blank (e ∷ f ∷ es) = false

-- the words of the entries rise strictly and no mask is 0
abbrev pub is_ascending : List Entry → Bool
is_ascending row =
    is_rising (map (λ (e : Entry). e.word) row) && list_all (λ (e : Entry). not (e.mask == 0)) row

-- the form of a row: at least one entry, the words rise strictly and no mask is 0; or the row that
-- clears nothing
abbrev pub is_row : List Entry → Bool
is_row row = is_blank row || (not (length row == 0) && is_ascending row)

-- this entry clears this bit of this word
abbrev pub entry_clears : Entry → ℕ → ℕ → Bool
entry_clears e word bit = (e.word == word) && (bit_at e.mask bit == 1)

-- some entry of the row clears this bit of this word
abbrev pub clears : List Entry → ℕ → ℕ → Bool
clears row word bit = list_any (λ (e : Entry). entry_clears e word bit) row

-- some row of the list clears this bit of this word
abbrev pub rows_clear : List (List Entry) → ℕ → ℕ → Bool
rows_clear rows word bit = list_any (λ (row : List Entry). clears row word bit) rows

-- all words that the row names are below the width
abbrev pub below : ℕ → List Entry → Bool
below width row = list_all (λ (e : Entry). nat_lt e.word width) row

-- all words that these rows name are below the width
abbrev pub rows_below : ℕ → List (List Entry) → Bool
rows_below width rows = list_all (below width) rows

-- the same word and the same mask
abbrev pub same_entry : Entry → Entry → Bool
same_entry e f = (e.word == f.word) && (e.mask == f.mask)

-- the same entries in the same order
abbrev pub same_row : List Entry → List Entry → Bool
same_row = pointwise same_entry

-- the new entries clear this bit of this word besides those of the old, and no other
abbrev pub AddsBit : List Entry → ℕ → ℕ → List Entry → Type 0
AddsBit old word bit new = (i b : ℕ)
    → clears new i b ≡ (clears old i b || ((word == i) && (bit == b)))

-- the new entries clear the bits of this mask, of this word, besides those of the old, and no other
abbrev pub AddsMask : List Entry → ℕ → ℕ → List Entry → Type 0
AddsMask old word mask new = (i b : ℕ)
    → clears new i b ≡ (clears old i b || ((word == i) && (bit_at mask b == 1)))
