-- A printed row is cut into its line and its fields again, and a line is the row of its fields.
use Rattle.std.proofs.Common.{◌≡◌, ℕ, suc, ◌+◌, ◌<◌, ◌==◌, List, [], ◌∷◌, ◌++◌, length, take, drop, get_or, Bool, true, false, Some, None, refl, sym, ap, ◌∙◌, arith, append_assoc, length-append}
use Rattle.std.specs.Prelude.{All, nat_lt, Option, if◌then◌else◌}
use Rattle.std.specs.List.{join_with_byte, position_or_len}
use Rattle.std.proofs.Math.Seq.{drop-append-add, get_or-append_seam, split_at, take-append_seam}
use Rattle.std.proofs.lemmas.Bool.{eqb-true, lt-ltb, ltb-true}
use Rattle.std.proofs.lemmas.List.{get_or_append_left}
use Rattle.std.proofs.lemmas.List.Elements.{All-append, All-cons, All-head, All-nil, All-tail}
use Rattle.std.proofs.lemmas.List.Splits.{join_with_byte-slice_split, slice_split_at, slice_split_none}
use Rattle.std.proofs.lemmas.List.Sums.{passes_at_first, position_or_len_is}
use Rattle.certificates.specs.Claims.{line_fields}
use Rattle.event_lines.specs.Cut.{is_line_feed}
use Rattle.text_rows.specs.Rows.{row_of}
use Rattle.digest_facts.specs.Texts.{IsUnbroken}
use Rattle.digest_reading.specs.Readings.{first_line}

abbrev is_tab : ℕ → Bool
is_tab b = b == 9

-- ---- lines
-- the bytes before the first line feed are the first line
pub line_cut : (line rest : List ℕ) → All (λ b. is_line_feed b ≡ false) line → first_line (line ++ 10 ∷ rest) ≡ Some (line, rest)
line_cut line rest h =
    let bytes : List ℕ = line ++ 10 ∷ rest in
    let long : length bytes ≡ length line + suc (length rest) = length-append line (10 ∷ rest) in
    let before : (k : ℕ) → k < length line → is_line_feed (get_or bytes k 0) ≡ false = λ k lt. ap is_line_feed (get_or_append_left line (10 ∷ rest) 0 k lt) ∙ h k 0 lt in
    let here : length line < length bytes → is_line_feed (get_or bytes (length line) 0) ≡ true = λ lt. ap is_line_feed (get_or-append_seam line 10 rest 0) in
    let at : position_or_len is_line_feed bytes ≡ length line = position_or_len_is is_line_feed bytes (length line) 0 (omega (arith, long)) before here in
    let some : nat_lt (length line) (length bytes) ≡ true = lt-ltb (length line) (length bytes) (omega (arith, long)) in
    let first : take (length line) bytes ≡ line = take-append_seam line (10 ∷ rest) in
    let after : drop (length line + 1) bytes ≡ rest = drop-append-add line (10 ∷ rest) 1 in
    rw (at, some) (λ i. Some (first i, after i))

-- bytes are their first line, a line feed and what follows it
pub line_back : (bytes line rest : List ℕ) → first_line bytes ≡ Some (line, rest) → bytes ≡ line ++ 10 ∷ rest
line_back bytes line rest h = by (nat_lt (position_or_len is_line_feed bytes) (length bytes)) refl h
  where
    by : (some : Bool) → nat_lt (position_or_len is_line_feed bytes) (length bytes) ≡ some → if◌then◌else◌ {A = Option (List ℕ × List ℕ)} some (Some (take (position_or_len is_line_feed bytes) bytes, drop (position_or_len is_line_feed bytes + 1) bytes)) None ≡ Some (line, rest) → bytes ≡ line ++ 10 ∷ rest
    by false e told = absurd (cc told)
    by true e told =
        let p : ℕ = position_or_len is_line_feed bytes in
        let lt : p < length bytes = ltb-true p (length bytes) e in
        let feed : get_or bytes p 0 ≡ 10 = eqb-true (get_or bytes p 0) 10 (passes_at_first is_line_feed bytes 0 lt) in
        let cut : List ℕ × List ℕ = (take p bytes, drop (p + 1) bytes) in
        let given : List ℕ × List ℕ = (line, rest) in
        let whole : cut ≡ given = cc told in
        let first : take p bytes ≡ line = ap (λ (q : List ℕ × List ℕ). q.0) whole in
        let after : drop (p + 1) bytes ≡ rest = ap (λ (q : List ℕ × List ℕ). q.1) whole in
        let step : suc p ≡ p + 1 = omega arith in
        let tail : drop (suc p) bytes ≡ drop (p + 1) bytes = ap (λ (n : ℕ). drop n bytes) step in
        split_at bytes p 0 lt ∙ ap (λ (b : ℕ). take p bytes ++ b ∷ drop (suc p) bytes) feed
        ∙ ap (λ (l : List ℕ). take p bytes ++ 10 ∷ l) (tail ∙ after) ∙ ap (λ (l : List ℕ). l ++ 10 ∷ rest) first

-- ---- fields
-- fields without tabs and line feeds are cut again
pub fields_back : (field : List ℕ) (fields : List (List ℕ)) → All IsUnbroken (field ∷ fields) → line_fields (join_with_byte 9 (field ∷ fields)) ≡ field ∷ fields
fields_back field [] h = slice_split_none is_tab field (All-head IsUnbroken field [] h).0
fields_back field (next ∷ fields) h =
    slice_split_at is_tab field 9 (join_with_byte 9 (next ∷ fields)) (All-head IsUnbroken field (next ∷ fields) h).0 refl
    ∙ ap (λ (fs : List (List ℕ)). field ∷ fs) (fields_back next fields (All-tail IsUnbroken field (next ∷ fields) h))

-- they have no line feed between them
pub joined_whole : (fields : List (List ℕ)) → All IsUnbroken fields → All (λ b. is_line_feed b ≡ false) (join_with_byte 9 fields)
joined_whole [] h = All-nil (λ b. is_line_feed b ≡ false)
joined_whole (field ∷ []) h = (All-head IsUnbroken field [] h).1
joined_whole (field ∷ next ∷ fields) h =
    All-append (λ b. is_line_feed b ≡ false) field (9 ∷ join_with_byte 9 (next ∷ fields)) (All-head IsUnbroken field (next ∷ fields) h).1
    (All-cons (λ b. is_line_feed b ≡ false) 9 (join_with_byte 9 (next ∷ fields)) refl (joined_whole (next ∷ fields) (All-tail IsUnbroken field (next ∷ fields) h)))

-- a line is its fields with tabs between them
pub line_of_fields : (line : List ℕ) (fields : List (List ℕ)) → line_fields line ≡ fields → line ≡ join_with_byte 9 fields
line_of_fields line fields e = sym (join_with_byte-slice_split 9 line) ∙ ap (join_with_byte 9) e

-- a row before other bytes is its line, a line feed and these
pub row_then : (fields : List (List ℕ)) (rest : List ℕ) → row_of fields ++ rest ≡ join_with_byte 9 fields ++ 10 ∷ rest
row_then fields rest = append_assoc (join_with_byte 9 fields) (10 ∷ []) rest
