-- Texts that may stand in a line: their escapes, UTF-8, and no line feed.
use Rattle.std.proofs.Common.{◌≡◌, ℕ, zero, suc, ◌≤◌, ◌<◌, ◌^◌, ◌==◌, ◌||◌, List, [], ◌∷◌, ◌++◌, Bool, true, false, length, decimal, codes, Option, Some, None, refl, sym, ap, subst, ◌∙◌, arith}
use Rattle.std.specs.Prelude.{nat_le, nat_lt, if◌then◌else◌}
use Rattle.std.specs.Char.{is_ascii_digit}
use Rattle.std.specs.List.{flat_map, list_all, list_any}
use Rattle.std.specs.Str.{IsAscii, IsUtf8}
use Rattle.std.proofs.lemmas.Bool.{and_parts, eq-eqb, eqb-true, false≢true, leb-true, le-ltb, ltb-false, ne_eqb, or_from, or_parts}
use Rattle.std.proofs.lemmas.Fmt.{digits_decimal}
use Rattle.std.proofs.lemmas.List.Folds.{list_any-append}
use Rattle.std.proofs.lemmas.Str.{IsUtf8-append, IsUtf8-from_ascii}
use Rattle.json.specs.Print as print
use Rattle.json.proofs.Printed.Strings.{escape_byte_plain}
use Rattle.json.proofs.Printed.Utf8.{IsUtf8-are_ascii, IsUtf8-quoted}
use Rattle.event_lines.specs.Cut.{is_line_feed}
use Rattle.event_lines.specs.EventFaults.{is_control_character}
use Rattle.event_text.specs.LineTexts.{escaped_byte, message_member, quoted}
use Rattle.trace_types.proofs.DecimalLemmas.{decimal_numerals}
use Rattle.reading_laws.specs.Readings.{IsGoodMessage, IsGoodText}

-- ---- control characters

abbrev pub IsClean : List ℕ → Type 0
IsClean text = list_any is_control_character text ≡ false

pub clean_of : (text : List ℕ) → IsGoodText text → IsClean text
clean_of text h = (or_parts (length text == 0 || nat_lt 64 (length text)) (list_any is_control_character text) h.good).1

low_bound : (byte : ℕ) → is_control_character byte ≡ false → 32 ≤ byte
low_bound byte h = ltb-false byte 32 (or_parts (nat_lt byte 32) (byte == 127) h).0

-- ---- escapes

escape_one : (x : ℕ) → is_control_character x ≡ false → escaped_byte x ≡ print.escape_byte x
unfolding print.escape_byte
escape_one x h = by (x == 34) (x == 92) refl refl
  where
    by : (d e : Bool) → (x == 34) ≡ d → (x == 92) ≡ e → escaped_byte x ≡ print.escape_byte x
    by true e p q = subst (λ (y : ℕ). escaped_byte y ≡ print.escape_byte y) (sym (eqb-true x 34 p)) refl
    by false true p q = subst (λ (y : ℕ). escaped_byte y ≡ print.escape_byte y) (sym (eqb-true x 92 q)) refl
    by false false p q =
        ap (λ b. if b then 92 ∷ x ∷ [] else x ∷ []) (or_from (x == 34) (x == 92) p q)
        ∙ sym (escape_byte_plain x (λ r. false≢true (sym p ∙ eq-eqb x 34 r)) (λ r. false≢true (sym q ∙ eq-eqb x 92 r)) (low_bound x h))

pub escape_same : (text : List ℕ) → IsClean text → flat_map escaped_byte text ≡ print.escape text
escape_same [] h = refl
escape_same (x ∷ text) h =
    let p = or_parts (is_control_character x) (list_any is_control_character text) h in
    let one = escape_one x p.0 in
    let rest = escape_same text p.1 in
    λ i. one i ++ rest i

-- ---- parts of a line

-- it is UTF-8 and has no line feed
pub record IsPart (text : List ℕ) : Type 0 where
  pub utf8 : IsUtf8 text
  pub one : list_any is_line_feed text ≡ false

pub both_parts : (xs ys : List ℕ) → IsPart xs → IsPart ys → IsPart (xs ++ ys)
both_parts xs ys h k = record {
  utf8 = IsUtf8-append xs ys h.utf8 k.utf8;
  one = list_any-append is_line_feed xs ys ∙ or_from (list_any is_line_feed xs) (list_any is_line_feed ys) h.one k.one;
}

escaped_feed : (text : List ℕ) → IsClean text → list_any is_line_feed (flat_map escaped_byte text) ≡ false
escaped_feed [] h = refl
escaped_feed (x ∷ text) h =
    let p = or_parts (is_control_character x) (list_any is_control_character text) h in
    list_any-append is_line_feed (escaped_byte x) (flat_map escaped_byte text)
    ∙ or_from (list_any is_line_feed (escaped_byte x)) (list_any is_line_feed (flat_map escaped_byte text)) (by (x == 34 || x == 92) refl (no_feed (low_bound x p.0))) (escaped_feed text p.1)
  where
    no_feed : 32 ≤ x → is_line_feed x ≡ false
    no_feed low = ne_eqb x 10 (λ e. omega (arith, e, low))

    by : (b : Bool) → (x == 34 || x == 92) ≡ b → is_line_feed x ≡ false → list_any is_line_feed (escaped_byte x) ≡ false
    by true e f = ap (λ c. list_any is_line_feed (if c then 92 ∷ x ∷ [] else x ∷ [])) e ∙ or_from (is_line_feed x) false f refl
    by false e f = ap (λ c. list_any is_line_feed (if c then 92 ∷ x ∷ [] else x ∷ [])) e ∙ or_from (is_line_feed x) false f refl

quoted_same : (text : List ℕ) → IsClean text → quoted text ≡ print.quoted text
unfolding quoted
quoted_same text h = ap (λ t. 34 ∷ (t ++ 34 ∷ [])) (escape_same text h)

quoted_feed : (text : List ℕ) → IsClean text → list_any is_line_feed (quoted text) ≡ false
unfolding quoted
quoted_feed text h =
    list_any-append is_line_feed (flat_map escaped_byte text) (34 ∷ [])
    ∙ or_from (list_any is_line_feed (flat_map escaped_byte text)) (list_any is_line_feed (34 ∷ [])) (escaped_feed text h) refl

pub quoted_part : (text : List ℕ) → IsGoodText text → IsPart (quoted text)
quoted_part text h = record {
  utf8 = subst IsUtf8 (sym (quoted_same text (clean_of text h))) (IsUtf8-quoted text h.utf8);
  one = quoted_feed text (clean_of text h);
}

-- ---- decimals

digit_bounds : (b : ℕ) → is_ascii_digit b ≡ true → (48 ≤ b) × (b ≤ 57)
digit_bounds b h = let p = and_parts (nat_le 48 b) (nat_le b 57) h in (leb-true 48 b p.0, leb-true b 57 p.1)

digits_ascii : (ds : List ℕ) → list_all is_ascii_digit ds ≡ true → IsAscii ds
digits_ascii [] h i = omega arith
digits_ascii (b ∷ ds) h zero = let p = and_parts (is_ascii_digit b) (list_all is_ascii_digit ds) h in omega (arith, (digit_bounds b p.0).1)
digits_ascii (b ∷ ds) h (suc i) = digits_ascii ds (and_parts (is_ascii_digit b) (list_all is_ascii_digit ds) h).1 i

digits_feed : (ds : List ℕ) → list_all is_ascii_digit ds ≡ true → list_any is_line_feed ds ≡ false
digits_feed [] h = refl
digits_feed (b ∷ ds) h =
    let p = and_parts (is_ascii_digit b) (list_all is_ascii_digit ds) h in
    let low = (digit_bounds b p.0).0 in
    or_from (is_line_feed b) (list_any is_line_feed ds) (ne_eqb b 10 (λ e. omega (arith, e, low))) (digits_feed ds p.1)

digits_clean : (ds : List ℕ) → list_all is_ascii_digit ds ≡ true → IsClean ds
digits_clean [] h = refl
digits_clean (b ∷ ds) h =
    let p = and_parts (is_ascii_digit b) (list_all is_ascii_digit ds) h in
    let q = digit_bounds b p.0 in
    or_from (is_control_character b) (list_any is_control_character ds) (or_from (nat_lt b 32) (b == 127) (le-ltb b 32 (omega (arith, q.0))) (ne_eqb b 127 (λ e. omega (arith, e, q.1)))) (digits_clean ds p.1)

pub decimal_part : (n : ℕ) → n < 2 ^ 64 → IsPart (decimal n)
decimal_part n few = record {
  utf8 = IsUtf8-from_ascii (decimal n) (digits_ascii (decimal n) (digits_decimal decimal_numerals n few));
  one = digits_feed (decimal n) (digits_decimal decimal_numerals n few);
}

pub decimal_clean : (n : ℕ) → n < 2 ^ 64 → IsClean (decimal n)
decimal_clean n few = digits_clean (decimal n) (digits_decimal decimal_numerals n few)

-- ---- messages

pub message_part : (name : List ℕ) (message : Option (List ℕ)) → IsPart (codes ",\"" ++ name ++ codes "\":") → IsGoodMessage message → IsPart (message_member name message)
message_part name None h good = record { utf8 = IsUtf8-are_ascii [] refl; one = refl }
message_part name (Some message) h good = both_parts (codes ",\"" ++ name ++ codes "\":") (quoted message) h (quoted_part message good)
