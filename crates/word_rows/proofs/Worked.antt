-- The definitions computed on worked rows.
use Rattle.std.specs.Prelude.{◌≡◌, ℕ, true, false, Ok, Err, [], ◌∷◌, refl}
use Rattle.word_rows.specs.declared.entries.Entry.{Entry}
use Rattle.word_rows.specs.Rows.{is_row}
use Rattle.word_rows.specs.Words.{bit_of, full_words, without_entry}
use Rattle.word_rows.specs.Machine.{after, clear, load, split, join, close, Cleared, Loaded, Split, Joined, Closed, no_seat, row_open, bad_share, bad_word, shares_out}

abbrev entry : ℕ → ℕ → Entry
entry word mask = record { word = word; mask = mask }

-- two seats clear a bit each; a close has the fault `shares_out` until they are joined, and after it no seat is live
two_seats : (after 1 2 (
    split 0 1
    ∷ clear 0 (entry 0 1 ∷ [])
    ∷ clear 1 (entry 0 4 ∷ [])
    ∷ load 0 0
    ∷ close 0
    ∷ join 0 1
    ∷ close 0
    ∷ load 0 0
    ∷ [])).1
    ≡ Ok (Split 1)
    ∷ Ok (Cleared 18446744073709551615)
    ∷ Ok (Cleared 18446744073709551614)
    ∷ Ok (Loaded 18446744073709551610)
    ∷ Err (shares_out 1 2)
    ∷ Ok Joined
    ∷ Ok (Closed (18446744073709551610 ∷ []))
    ∷ Err (no_seat 0)
    ∷ []
two_seats = refl

-- a row of two words that is cleared twice: the second time its bits are 0 already
whole_rows : (after 2 1 (
    clear 0 (entry 0 1 ∷ entry 1 1 ∷ [])
    ∷ clear 0 (entry 0 1 ∷ entry 1 1 ∷ [])
    ∷ clear 0 (entry 0 1 ∷ entry 1 1 ∷ [])
    ∷ clear 0 (entry 0 1 ∷ entry 1 1 ∷ [])
    ∷ load 0 0
    ∷ load 0 1
    ∷ close 0
    ∷ [])).1
    ≡ Ok (Cleared 18446744073709551615)
    ∷ Ok (Cleared 18446744073709551615)
    ∷ Ok (Cleared 18446744073709551614)
    ∷ Ok (Cleared 18446744073709551614)
    ∷ Ok (Loaded 18446744073709551614)
    ∷ Ok (Loaded 18446744073709551614)
    ∷ Ok (Closed (18446744073709551614 ∷ 18446744073709551614 ∷ []))
    ∷ []
whole_rows = refl

-- while a row is in progress all but its own next entry have the fault `row_open`, and a note clears nothing
row_in_progress : (after 2 1 (
    clear 0 (entry 0 1 ∷ entry 1 1 ∷ [])
    ∷ load 0 0
    ∷ clear 0 (entry 0 1 ∷ entry 1 1 ∷ [])
    ∷ load 0 1
    ∷ clear 0 (entry 2 1 ∷ [])
    ∷ split 0 1
    ∷ split 0 0
    ∷ clear 1 (entry 0 2 ∷ [])
    ∷ close 0
    ∷ [])).1
    ≡ Ok (Cleared 18446744073709551615)
    ∷ Err (row_open 0)
    ∷ Ok (Cleared 18446744073709551615)
    ∷ Ok (Loaded 18446744073709551614)
    ∷ Err (bad_word 2 2)
    ∷ Err (bad_share 1 1)
    ∷ Ok (Split 1)
    ∷ Err (bad_share 0 1)
    ∷ Ok (Closed (18446744073709551614 ∷ 18446744073709551614 ∷ []))
    ∷ []
row_in_progress = refl

-- the join of a seat with itself, or with one that was joined away, has no seat
joined_away : (after 1 2 (split 0 1 ∷ join 0 0 ∷ join 0 1 ∷ join 0 1 ∷ load 1 0 ∷ [])).1
    ≡ Ok (Split 1) ∷ Err (no_seat 0) ∷ Ok Joined ∷ Err (no_seat 1) ∷ Err (no_seat 1) ∷ []
joined_away = refl

-- the row that clears nothing, a row of two words, a word that stands twice, words that fall, a mask 0, no entry
forms : is_row (entry 0 0 ∷ []) ∷ is_row (entry 0 1 ∷ entry 3 8 ∷ []) ∷ is_row (entry 0 1 ∷ entry 0 2 ∷ []) ∷ is_row (entry 3 1 ∷ entry 1 2 ∷ []) ∷ is_row (entry 0 1 ∷ entry 1 0 ∷ []) ∷ is_row [] ∷ []
    ≡ true ∷ true ∷ false ∷ false ∷ false ∷ false ∷ []
forms = refl

-- bits 1 and 3 of the first word are cleared, and bit 0 stays
cleared_bits : bit_of (without_entry (full_words 2) (entry 0 10)) 0 0 ∷ bit_of (without_entry (full_words 2) (entry 0 10)) 0 1 ∷ bit_of (without_entry (full_words 2) (entry 0 10)) 0 3 ∷ bit_of (without_entry (full_words 2) (entry 0 10)) 1 1 ∷ []
    ≡ 1 ∷ 0 ∷ 0 ∷ 1 ∷ []
cleared_bits = refl
