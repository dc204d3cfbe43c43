-- Printed rows are cut into lines and fields again.
use Rattle.std.proofs.Common.{◌≡◌, ℕ, ◌<◌, ◌≤◌, ◌==◌, List, [], ◌∷◌, ◌++◌, false, refl, ap, ◌∙◌, arith, append_assoc, codes}
use Rattle.std.specs.Prelude.{All, Bool, nat_lt}
use Rattle.std.specs.List.{join_with_byte, list_any}
use Rattle.std.proofs.lemmas.Bool.{or_parts, ltb-false, ne_eqb}
use Rattle.std.proofs.lemmas.List.Elements.{All-append, All-cons, All-nil}
use Rattle.std.proofs.lemmas.List.Splits.{slice_split_at, slice_split_none}
use Rattle.certificates.specs.Claims.{line_fields}
use Rattle.event_lines.specs.Cut.{input_lines, is_line_feed}
use Rattle.event_lines.specs.EventFaults.{is_control_character}
use Rattle.text_rows.specs.Rows.{row_of}

-- the bytes have no control character
abbrev pub IsClean : List ℕ → Type 0
IsClean bytes = list_any is_control_character bytes ≡ false

-- nor has one of the fields
abbrev pub AreClean : List (List ℕ) → Type 0
AreClean [] = Unit {0}
AreClean (field ∷ fields) = IsClean field × AreClean fields

-- a byte that is no control character is none below 32
other : (b c : ℕ) → is_control_character b ≡ false → c < 32 → (b == c) ≡ false
other b c h low =
    let le : 32 ≤ b = ltb-false b 32 (or_parts (nat_lt b 32) (b == 127) h).0 in
    ne_eqb b c (λ e. omega arith)

lacks : (c : ℕ) → c < 32 → (bytes : List ℕ) → IsClean bytes → All (λ b. (b == c) ≡ false) bytes
lacks c low [] h = All-nil (λ b. (b == c) ≡ false)
lacks c low (b ∷ bytes) h =
    let p = or_parts (is_control_character b) (list_any is_control_character bytes) h in
    All-cons (λ b. (b == c) ≡ false) b bytes (other b c p.0 low) (lacks c low bytes p.1)

-- a tab
abbrev is_tab : ℕ → Bool
is_tab byte = byte == 9

-- fields that are joined by tabs are cut at them
pub fields_back : (field : List ℕ) (fields : List (List ℕ)) → AreClean (field ∷ fields) → line_fields (join_with_byte 9 (field ∷ fields)) ≡ field ∷ fields
fields_back field [] h = slice_split_none is_tab field (lacks 9 (omega arith) field h.0)
fields_back field (next ∷ fields) h =
    slice_split_at is_tab field 9 (join_with_byte 9 (next ∷ fields)) (lacks 9 (omega arith) field h.0) refl
    ∙ ap (λ fs. field ∷ fs) (fields_back next fields h.1)

-- joined fields have no line feed
joined : (fields : List (List ℕ)) → AreClean fields → All (λ b. (b == 10) ≡ false) (join_with_byte 9 fields)
joined [] h = All-nil (λ b. (b == 10) ≡ false)
joined (field ∷ []) h = lacks 10 (omega arith) field h.0
joined (field ∷ next ∷ fields) h =
    All-append (λ b. (b == 10) ≡ false) field (9 ∷ join_with_byte 9 (next ∷ fields)) (lacks 10 (omega arith) field h.0)
    (All-cons (λ b. (b == 10) ≡ false) 9 (join_with_byte 9 (next ∷ fields)) refl (joined (next ∷ fields) h.1))

-- a row is the first line of what begins with it
pub row_cut : (fields : List (List ℕ)) (rest : List ℕ) → AreClean fields → input_lines (row_of fields ++ rest) ≡ join_with_byte 9 fields ∷ input_lines rest
row_cut fields rest h =
    ap input_lines (append_assoc (join_with_byte 9 fields) (codes "\n") rest)
    ∙ slice_split_at is_line_feed (join_with_byte 9 fields) 10 rest (joined fields h) refl
