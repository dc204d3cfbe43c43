-- The bases of names: UTF-8, short, without control characters, and not empty.
use Rattle.std.proofs.Common.{◌≡◌, ◌⊎◌, inl, inr, ℕ, zero, suc, ◌+◌, ◌/◌, ◌%◌, ◌<◌, ◌≤◌, ◌==◌, ◌||◌, ◌&&◌, List, [], ◌∷◌, ◌++◌, Bool, true, false, ltb, length, take, get_or, refl, sym, ap, ◌∙◌, subst, true≢false, append-nil, arith}
use Rattle.std.specs.Prelude.{nat_le, nat_lt, if◌then◌else◌}
use Rattle.std.specs.Char.{encode_utf8, len_utf8}
use Rattle.std.specs.List.{flat_map, list_any}
use Rattle.std.specs.Str.{IsAscii, IsCharBoundary, IsUtf8, chars}
use Rattle.std.proofs.lemmas.Bool.{and_parts, cases_lt, cases_order, leb-true, le-ltb, lt-ltb, ne_eqb, or_from, or_parts}
use Rattle.std.proofs.lemmas.List.{get_or_past, length-append, take_all}
use Rattle.std.proofs.lemmas.List.Folds.{list_any-append}
use Rattle.std.proofs.lemmas.Str.{IsCharBoundary-past_char, IsCharBoundary-start, IsUtf8-append, IsUtf8-from_ascii, IsUtf8-take, len_utf8_bounds, scalars-chars}
use lib.Utf8.{encodes, scalar, scalars}
use Rattle.event_lines.specs.EventFaults.{is_control_character}
use Rattle.task_pieces.specs.PieceNames.{cut_length, is_inner_byte}
use Rattle.task_pieces.proofs.CutLemmas.{first_bounds}
use Rattle.span_names.specs.Names.{base_of, escaped, escaped_byte, hex_digit, is_escaped}
use Rattle.span_names.specs.inner.Characters.{escaped_char}
use Rattle.span_names.proofs.CharacterLemmas.{escaped_chars}

-- it has no control character
abbrev pub IsClean : List ℕ → Type 0
IsClean text = list_any is_control_character text ≡ false

-- ---- what is escaped

escaped_low : (b : ℕ) → is_escaped b ≡ true → b < 128
escaped_low b h = by (cases_lt b 128)
  where
    by : (b < 128) ⊎ (128 ≤ b) → b < 128
    by (inl lt) = lt
    by (inr ge) = absurd (true≢false (sym h ∙ or_from (b == 37) (b == 64 || (nat_lt b 32 || b == 127)) (ne_eqb b 37 (λ e. omega (arith, e, ge)))
        (or_from (b == 64) (nat_lt b 32 || b == 127) (ne_eqb b 64 (λ e. omega (arith, e, ge))) (or_from (nat_lt b 32) (b == 127) (le-ltb b 32 (omega (arith, ge))) (ne_eqb b 127 (λ e. omega (arith, e, ge)))))))

hex_bounds : (n : ℕ) → n < 16 → (48 ≤ hex_digit n) × (hex_digit n ≤ 70)
hex_bounds n lt = by (cases_lt n 10)
  where
    by : (n < 10) ⊎ (10 ≤ n) → (48 ≤ hex_digit n) × (hex_digit n ≤ 70)
    by (inl l) = let e : hex_digit n ≡ 48 + n = (let t : ltb n 10 ≡ true = lt-ltb n 10 l in rw t refl) in (omega (arith, e), omega (arith, e, l))
    by (inr g) = let e : hex_digit n ≡ 55 + n = (let t : ltb n 10 ≡ false = le-ltb n 10 g in rw t refl) in (omega (arith, e, g), omega (arith, e, lt))

pub not_control : (b : ℕ) → 32 ≤ b → b ≤ 126 → is_control_character b ≡ false
not_control b low high = or_from (nat_lt b 32) (b == 127) (le-ltb b 32 low) (ne_eqb b 127 (λ e. omega (arith, e, high)))

digits_of : ℕ → List ℕ
digits_of b = 37 ∷ hex_digit (b / 16) ∷ hex_digit (b % 16) ∷ []

module _ (b : ℕ) (lt : b < 128) where
  high_digit : (48 ≤ hex_digit (b / 16)) × (hex_digit (b / 16) ≤ 70)
  high_digit = hex_bounds (b / 16) (omega (arith, lt))

  low_digit : (48 ≤ hex_digit (b % 16)) × (hex_digit (b % 16) ≤ 70)
  low_digit = hex_bounds (b % 16) (omega arith)

  digits_clean : IsClean (37 ∷ hex_digit (b / 16) ∷ hex_digit (b % 16) ∷ [])
  digits_clean =
      or_from (is_control_character 37) (list_any is_control_character (hex_digit (b / 16) ∷ hex_digit (b % 16) ∷ [])) refl
      (or_from (is_control_character (hex_digit (b / 16))) (list_any is_control_character (hex_digit (b % 16) ∷ [])) (not_control (hex_digit (b / 16)) (omega (arith, high_digit.0)) (omega (arith, high_digit.1)))
      (or_from (is_control_character (hex_digit (b % 16))) false (not_control (hex_digit (b % 16)) (omega (arith, low_digit.0)) (omega (arith, low_digit.1))) refl))

  digits_ascii : IsAscii (37 ∷ hex_digit (b / 16) ∷ hex_digit (b % 16) ∷ [])
  digits_ascii zero = omega arith
  digits_ascii (suc zero) = omega (arith, high_digit.1)
  digits_ascii (suc (suc zero)) = omega (arith, low_digit.1)
  digits_ascii (suc (suc (suc i))) = omega arith

pub both_clean : (xs ys : List ℕ) → IsClean xs → IsClean ys → IsClean (xs ++ ys)
both_clean xs ys h k = list_any-append is_control_character xs ys ∙ or_from (list_any is_control_character xs) (list_any is_control_character ys) h k

byte_clean : (b : ℕ) → IsClean (escaped_byte b)
byte_clean b = by (is_escaped b) refl
  where
    by : (x : Bool) → is_escaped b ≡ x → IsClean (escaped_byte b)
    by true e = ap (λ x. list_any is_control_character (if x then 37 ∷ hex_digit (b / 16) ∷ hex_digit (b % 16) ∷ [] else b ∷ [])) e ∙ digits_clean b (escaped_low b e)
    by false e =
        let p = or_parts (b == 37) (b == 64 || (nat_lt b 32 || b == 127)) e in
        let q = or_parts (b == 64) (nat_lt b 32 || b == 127) p.1 in
        ap (λ x. list_any is_control_character (if x then 37 ∷ hex_digit (b / 16) ∷ hex_digit (b % 16) ∷ [] else b ∷ [])) e ∙ or_from (is_control_character b) false q.1 refl

escaped_clean : (text : List ℕ) → IsClean (escaped text)
escaped_clean [] = refl
escaped_clean (b ∷ text) = both_clean (escaped_byte b) (escaped text) (byte_clean b) (escaped_clean text)

char_utf8 : (c : ℕ) → scalar c ≡ true → IsUtf8 (escaped_char c)
char_utf8 c h = by (nat_lt c 128 && is_escaped c) refl
  where
    by : (x : Bool) → (nat_lt c 128 && is_escaped c) ≡ x → IsUtf8 (escaped_char c)
    by true e =
        let p = and_parts (nat_lt c 128) (is_escaped c) e in
        let is : escaped_char c ≡ 37 ∷ hex_digit (c / 16) ∷ hex_digit (c % 16) ∷ [] = ap (λ x. if x then escaped_byte c else encode_utf8 c) e ∙ ap (λ x. if x then 37 ∷ hex_digit (c / 16) ∷ hex_digit (c % 16) ∷ [] else c ∷ []) p.1 in
        subst IsUtf8 (sym is) (IsUtf8-from_ascii (37 ∷ hex_digit (c / 16) ∷ hex_digit (c % 16) ∷ []) (digits_ascii c (escaped_low c p.1)))
    by false e = subst IsUtf8 (sym (ap (λ x. if x then escaped_byte c else encode_utf8 c) e)) (c ∷ [], (ap (λ x. x && true) h, append-nil (encode_utf8 c)))

chars_utf8 : (cs : List ℕ) → scalars cs ≡ true → IsUtf8 (flat_map escaped_char cs)
chars_utf8 [] h = ([], (refl, refl))
chars_utf8 (c ∷ cs) h = let p = and_parts (scalar c) (scalars cs) h in IsUtf8-append (escaped_char c) (flat_map escaped_char cs) (char_utf8 c p.0) (chars_utf8 cs p.1)

escaped_utf8 : (text : List ℕ) → IsUtf8 text → IsUtf8 (escaped text)
escaped_utf8 text h = subst IsUtf8 (escaped_chars text h) (chars_utf8 (chars text) (scalars-chars text h))

escaped_some : (text : List ℕ) → 0 < length text → 0 < length (escaped text)
escaped_some [] h = absurd (omega (arith, h))
escaped_some (b ∷ text) h = omega (arith, length-append (escaped_byte b) (escaped text), one (is_escaped b))
  where
    one : (x : Bool) → 0 < length (if x then 37 ∷ hex_digit (b / 16) ∷ hex_digit (b % 16) ∷ [] else b ∷ [])
    one true = omega arith
    one false = omega arith

-- ---- where a text is cut

cut_boundary : (text : List ℕ) (n : ℕ) → IsUtf8 text → n < length text → IsCharBoundary text (cut_length text n)
cut_boundary text zero utf8 lt = IsCharBoundary-start text utf8
cut_boundary text (suc n) utf8 lt = by (is_inner_byte (get_or text (suc n) 0)) refl (cut_boundary text n utf8 (omega (arith, lt)))
  where
    by : (b : Bool) → is_inner_byte (get_or text (suc n) 0) ≡ b → IsCharBoundary text (cut_length text n) → IsCharBoundary text (cut_length text (suc n))
    by true e rest = subst (IsCharBoundary text) (sym (ap (λ b. if b then cut_length text n else suc n) e)) rest
    by false e rest = subst (IsCharBoundary text) (sym (ap (λ b. if b then cut_length text n else suc n) e)) (omega (arith, lt), λ within low. first_bounds (get_or text (suc n) 0) e low)

cut_le : (text : List ℕ) (n : ℕ) → cut_length text n ≤ n
cut_le text zero = omega arith
cut_le text (suc n) = by (is_inner_byte (get_or text (suc n) 0)) refl (cut_le text n)
  where
    by : (b : Bool) → is_inner_byte (get_or text (suc n) 0) ≡ b → cut_length text n ≤ n → cut_length text (suc n) ≤ suc n
    by true e rest = let is : cut_length text (suc n) ≡ cut_length text n = ap (λ b. if b then cut_length text n else suc n) e in omega (arith, is, rest)
    by false e rest = let is : cut_length text (suc n) ≡ suc n = ap (λ b. if b then cut_length text n else suc n) e in omega (arith, is)

-- a place at which no inner byte stands is no later than the cut
cut_ge : (text : List ℕ) (k n : ℕ) → k ≤ n → is_inner_byte (get_or text k 0) ≡ false → k ≤ cut_length text n
cut_ge text k zero le h = omega (arith, le)
cut_ge text k (suc n) le h = by (is_inner_byte (get_or text (suc n) 0)) refl (cut_ge text k n)
  where
    by : (b : Bool) → is_inner_byte (get_or text (suc n) 0) ≡ b → (k ≤ n → is_inner_byte (get_or text k 0) ≡ false → k ≤ cut_length text n) → k ≤ cut_length text (suc n)
    by true e rest =
        let is : cut_length text (suc n) ≡ cut_length text n = ap (λ b. if b then cut_length text n else suc n) e in
        omega (arith, is, rest (below (cases_order k (suc n))) h)
      where
        below : (k ≡ suc n) ⊎ ((k < suc n) ⊎ (suc n < k)) → k ≤ n
        below (inl same) = absurd (true≢false (sym e ∙ ap (λ i. is_inner_byte (get_or text i 0)) (sym same) ∙ h))
        below (inr (inl l)) = omega arith
        below (inr (inr l)) = absurd (omega (arith, le, l))
    by false e rest = let is : cut_length text (suc n) ≡ suc n = ap (λ b. if b then cut_length text n else suc n) e in omega (arith, is, le)

-- a byte behind a character is no inner byte
boundary_plain : (text : List ℕ) (k : ℕ) → IsCharBoundary text k → is_inner_byte (get_or text k 0) ≡ false
boundary_plain text k h = by (is_inner_byte (get_or text k 0)) refl (cases_lt k (length text))
  where
    by : (b : Bool) → is_inner_byte (get_or text k 0) ≡ b → (k < length text) ⊎ (length text ≤ k) → is_inner_byte (get_or text k 0) ≡ false
    by false e place = e
    by true e (inl lt) =
        let p = and_parts (nat_le 128 (get_or text k 0)) (nat_le (get_or text k 0) 191) e in
        absurd (omega (arith, h.1 lt (leb-true 128 (get_or text k 0) p.0), leb-true (get_or text k 0) 191 p.1))
    by true e (inr ge) = absurd (true≢false (sym e ∙ ap is_inner_byte (get_or_past text k 0 ge)))

-- where the first character of a text ends
first_end : (text : List ℕ) → IsUtf8 text → 0 < length text → (k : ℕ) × (1 ≤ k) × (k ≤ 4) × IsCharBoundary text k
first_end text h some = by h.0 h.1.1
  where
    by : (cs : List ℕ) → encodes cs ≡ text → (k : ℕ) × (1 ≤ k) × (k ≤ 4) × IsCharBoundary text k
    by [] e = absurd (omega (arith, some, ap length e))
    by (c ∷ cs) e = let p = len_utf8_bounds c in (0 + len_utf8 c, omega (arith, p.0), omega (arith, p.1), IsCharBoundary-past_char text (encodes cs) 0 c (omega arith) h (sym e))

take_clean : (n : ℕ) (text : List ℕ) → IsClean text → IsClean (take n text)
take_clean zero text h = refl
take_clean (suc n) [] h = refl
take_clean (suc n) (x ∷ text) h =
    let p = or_parts (is_control_character x) (list_any is_control_character text) h in
    or_from (is_control_character x) (list_any is_control_character (take n text)) p.0 (take_clean n text p.1)

take_short : (n : ℕ) (text : List ℕ) → length (take n text) ≤ n
take_short zero text = omega arith
take_short (suc n) [] = omega arith
take_short (suc n) (x ∷ text) = omega (arith, take_short n text)

take_some : (n : ℕ) (text : List ℕ) → 0 < n → 0 < length text → 0 < length (take n text)
take_some zero text low some = absurd (omega (arith, low))
take_some (suc n) [] low some = absurd (omega (arith, some))
take_some (suc n) (x ∷ text) low some = omega arith

-- ---- parts of names

-- a text of so many bytes at most that may be a part of a good one
pub record IsPiece (most : ℕ) (text : List ℕ) : Type 0 where
  pub utf8 : IsUtf8 text
  pub short : length text ≤ most
  pub clean : IsClean text

pub both_pieces : (m n : ℕ) (xs ys : List ℕ) → IsPiece m xs → IsPiece n ys → IsPiece (m + n) (xs ++ ys)
both_pieces m n xs ys h k = record {
  utf8 = IsUtf8-append xs ys h.utf8 k.utf8;
  short = omega (arith, length-append xs ys, h.short, k.short);
  clean = both_clean xs ys h.clean k.clean;
}

cut_utf8 : (text : List ℕ) (most : ℕ) → IsUtf8 text → 4 ≤ most → IsUtf8 (take (cut_length text most) text)
cut_utf8 text most h four = by (cases_lt most (length text))
  where
    by : (most < length text) ⊎ (length text ≤ most) → IsUtf8 (take (cut_length text most) text)
    by (inl long) = IsUtf8-take text (cut_length text most) h (cut_boundary text most h long)
    by (inr small) = subst IsUtf8 (sym (take_all (cut_length text most) text (all (cases_lt (length text) most)))) h
      where
        all : (length text < most) ⊎ (most ≤ length text) → length text ≤ cut_length text most
        all place = cut_ge text (length text) most small (ap is_inner_byte (get_or_past text (length text) 0 (omega arith)))

pub base_piece : (most : ℕ) (text : List ℕ) → 4 ≤ most → IsUtf8 text → IsPiece most (base_of most text)
base_piece most text four h = record {
  utf8 = cut_utf8 (escaped text) most (escaped_utf8 text h) four;
  short = omega (arith, take_short (cut_length (escaped text) most) (escaped text), cut_le (escaped text) most);
  clean = take_clean (cut_length (escaped text) most) (escaped text) (escaped_clean text);
}

pub base_some : (most : ℕ) (text : List ℕ) → 4 ≤ most → IsUtf8 text → 0 < length text → 0 < length (base_of most text)
base_some most text four h some =
    let e = first_end (escaped text) (escaped_utf8 text h) (escaped_some text some) in
    take_some (cut_length (escaped text) most) (escaped text) (omega (arith, cut_ge (escaped text) e.0 most (omega (arith, e.2, four)) (boundary_plain (escaped text) e.0 e.3), e.1)) (escaped_some text some)
