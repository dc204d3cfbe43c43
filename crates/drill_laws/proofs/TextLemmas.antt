-- Texts that stand for themselves in a line of a drill.
use Rattle.std.proofs.Common.{◌≡◌, ℕ, zero, suc, ◌≤◌, ◌<◌, ◌^◌, ◌==◌, ◌&&◌, ◌||◌, not, List, [], ◌∷◌, ◌++◌, Bool, true, false, length, decimal, refl, ap, ◌∙◌, arith, eq-eqb}
use Rattle.std.specs.Prelude.{All, nat_le, nat_lt}
use Rattle.std.specs.Char.{is_ascii_digit}
use Rattle.std.specs.List.{list_all, list_any}
use Rattle.std.specs.Str.{IsAscii, is_utf8}
use Rattle.std.proofs.lemmas.Bool.{and_parts, or_from, leb-true, le-ltb, le-leb, ne_eqb}
use Rattle.std.proofs.lemmas.Fmt.{digits_decimal, length-decimal-le}
use Rattle.std.proofs.lemmas.List.Elements.{All-cons, All-nil}
use Rattle.std.proofs.lemmas.List.Folds.{list_all-append}
use Rattle.std.proofs.lemmas.List.Splits.{slice_split_none}
use Rattle.std.proofs.lemmas.Str.{IsUtf8-from_ascii, is_utf8-from_IsUtf8}
use Rattle.json.specs.Print.{escape}
use Rattle.json.proofs.Printed.Strings.{escape_byte_plain}
use Rattle.event_lines.specs.Cut.{input_lines, is_line_feed}
use Rattle.event_lines.specs.EventFaults.{is_bad_text, is_control_character}
use Rattle.trace_types.proofs.DecimalLemmas.{decimal_numerals}

-- a printable ASCII character
abbrev pub is_printable : ℕ → Bool
is_printable b = nat_le 32 b && nat_le b 126

-- one that is no quote and no backslash
abbrev pub is_plain_byte : ℕ → Bool
is_plain_byte b = is_printable b && (not (b == 34) && not (b == 92))

-- a text of an event line that needs no escape
pub record IsPlain (s : List ℕ) : Type 0 where
  pub plain : list_all is_plain_byte s ≡ true
  pub good : is_bad_text s ≡ false

-- ---- no escape

differs : (x y : ℕ) → not (x == y) ≡ true → x ≡ y → ⊥
differs x y h e = let t : not (x == y) ≡ false = ap not (eq-eqb x y e) in cc (h, t)

pub escape_plain : (s : List ℕ) → list_all is_plain_byte s ≡ true → escape s ≡ s
escape_plain [] h = refl
escape_plain (x ∷ s) h =
    let p = and_parts (is_plain_byte x) (list_all is_plain_byte s) h in
    let q = and_parts (is_printable x) (not (x == 34) && not (x == 92)) p.0 in
    let low = leb-true 32 x (and_parts (nat_le 32 x) (nat_le x 126) q.0).0 in
    let r = and_parts (not (x == 34)) (not (x == 92)) q.1 in
    ap (λ first. first ++ escape s) (escape_byte_plain x (differs x 34 r.0) (differs x 92 r.1) low) ∙ ap (λ rest. x ∷ rest) (escape_plain s p.1)

-- ---- printable bytes

pub printable_plain : (s : List ℕ) → list_all is_plain_byte s ≡ true → list_all is_printable s ≡ true
printable_plain [] h = refl
printable_plain (x ∷ s) h =
    let p = and_parts (is_plain_byte x) (list_all is_plain_byte s) h in
    let q = and_parts (is_printable x) (not (x == 34) && not (x == 92)) p.0 in
    let rest = printable_plain s p.1 in
    λ i. q.0 i && rest i

pub all_both : (p : ℕ → Bool) (xs ys : List ℕ) → list_all p xs ≡ true → list_all p ys ≡ true → list_all p (xs ++ ys) ≡ true
all_both p xs ys h k = list_all-append p xs ys ∙ (λ i. h i && k i)

bounds : (x : ℕ) (s : List ℕ) → list_all is_printable (x ∷ s) ≡ true → (32 ≤ x) × (x ≤ 126) × (list_all is_printable s ≡ true)
bounds x s h =
    let p = and_parts (is_printable x) (list_all is_printable s) h in
    let q = and_parts (nat_le 32 x) (nat_le x 126) p.0 in
    (leb-true 32 x q.0, leb-true x 126 q.1, p.1)

ascii : (s : List ℕ) → list_all is_printable s ≡ true → IsAscii s
ascii [] h i = omega arith
ascii (x ∷ s) h zero = omega (arith, (bounds x s h).1)
ascii (x ∷ s) h (suc i) = ascii s (bounds x s h).2 i

no_feed : (s : List ℕ) → list_all is_printable s ≡ true → All (λ x. is_line_feed x ≡ false) s
no_feed [] h = All-nil (λ x. is_line_feed x ≡ false)
no_feed (x ∷ s) h = let b = bounds x s h in All-cons (λ y. is_line_feed y ≡ false) x s (ne_eqb x 10 (λ e. omega (arith, b.0))) (no_feed s b.2)

-- bytes that are all printable are one line of UTF-8
pub one_line : (s : List ℕ) → list_all is_printable s ≡ true → input_lines s ≡ s ∷ []
one_line s h = slice_split_none is_line_feed s (no_feed s h)

pub printable_utf8 : (s : List ℕ) → list_all is_printable s ≡ true → is_utf8 s ≡ true
printable_utf8 s h = is_utf8-from_IsUtf8 s (IsUtf8-from_ascii s (ascii s h))

-- ---- decimals

digit_plain : (b : ℕ) → is_ascii_digit b ≡ true → (is_plain_byte b ≡ true) × (is_control_character b ≡ false)
digit_plain b h =
    let p = and_parts (nat_le 48 b) (nat_le b 57) h in
    let low : 48 ≤ b = leb-true 48 b p.0 in
    let high : b ≤ 57 = leb-true b 57 p.1 in
    let from : nat_le 32 b ≡ true = le-leb 32 b (omega arith) in
    let to : nat_le b 126 ≡ true = le-leb b 126 (omega arith) in
    let quote : (b == 34) ≡ false = ne_eqb b 34 (λ e. omega arith) in
    let slash : (b == 92) ≡ false = ne_eqb b 92 (λ e. omega arith) in
    ((λ i. (from i && to i) && (not (quote i) && not (slash i))), or_from (nat_lt b 32) (b == 127) (le-ltb b 32 (omega arith)) (ne_eqb b 127 (λ e. omega arith)))

digits_plain : (ds : List ℕ) → list_all is_ascii_digit ds ≡ true → (list_all is_plain_byte ds ≡ true) × (list_any is_control_character ds ≡ false)
digits_plain [] h = (refl, refl)
digits_plain (b ∷ ds) h =
    let p = and_parts (is_ascii_digit b) (list_all is_ascii_digit ds) h in
    let one = digit_plain b p.0 in
    let more = digits_plain ds p.1 in
    ((λ i. one.0 i && more.0 i), or_from (is_control_character b) (list_any is_control_character ds) one.1 more.1)

pub decimal_printable : (n : ℕ) → n < 2 ^ 64 → list_all is_printable (decimal n) ≡ true
decimal_printable n h = printable_plain (decimal n) (digits_plain (decimal n) (digits_decimal decimal_numerals n h)).0

-- the request of a trace
pub request_plain : (k : ℕ) → k < 20000 → IsPlain (114 ∷ decimal k)
request_plain k few =
    let wide : k < 2 ^ 64 = omega arith in
    let digits = digits_plain (decimal k) (digits_decimal decimal_numerals k wide) in
    let short : length (decimal k) ≤ 5 = length-decimal-le 5 k (omega arith) (omega arith) wide in
    let some : (length (114 ∷ decimal k) == 0) ≡ false = ne_eqb (length (114 ∷ decimal k)) 0 (λ e. omega arith) in
    let within : nat_lt 64 (length (114 ∷ decimal k)) ≡ false = le-ltb 64 (length (114 ∷ decimal k)) (omega arith) in
    record {
      plain = digits.0;
      good = or_from (length (114 ∷ decimal k) == 0 || nat_lt 64 (length (114 ∷ decimal k))) (list_any is_control_character (decimal k)) (or_from (length (114 ∷ decimal k) == 0) (nat_lt 64 (length (114 ∷ decimal k))) some within) digits.1;
    }
