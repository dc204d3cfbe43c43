-- The content of a JSON string in UTF-8 is UTF-8.
use Rattle.std.proofs.Common.{◌≡◌, ℕ, zero, suc, ◌+◌, ◌*◌, ◌<◌, ◌≤◌, ◌==◌, ◌&&◌, ◌||◌, cond, List, [], ◌∷◌, ◌++◌, Bool, true, false, Option, Some, None, length, refl, sym, ap, ◌∙◌, subst, inl, inr, ⊎_elim, arith, append_assoc, length-append, ◌/◌}
use Rattle.std.specs.Prelude.{nat_le, nat_lt, option_and_then}
use Rattle.std.specs.Char.{digit_value, encode_utf8, is_digit}
use Rattle.std.specs.Str.{IsUtf8}
use Rattle.std.proofs.lemmas.Bool.{and_cases, and_parts, cases_lt, cond_both, eqb-true, le-ltb, leb-false, le-leb, leb-true, lt-ltb, ltb-false, ltb-true, ne_eqb, or_cases}
use Rattle.std.proofs.lemmas.Str.{IsUtf8-append, IsUtf8-encode, IsUtf8-nil, byte_from_char, char_from_byte, encode_ascii, len_utf8_bounds, length-encode}
use lib.Utf8.{encode, encodes, low_scalar, next, scalar, scalars}
use Rattle.json.specs.Text.{after_backslash, after_high, after_u, code_unit, content, is_high_surrogate, is_low_surrogate, plain, prepend, short_escape, surrogate_pair}

-- ---- the first character of a text

-- the text begins with a character, and the rest is UTF-8
record Begins (x : ℕ) (xs : List ℕ) : Type 0 where
  char : ℕ
  rest : List ℕ
  scalar_char : scalar char ≡ true
  utf8 : IsUtf8 rest
  cut : x ∷ xs ≡ encode char ++ rest

begins : (x : ℕ) (xs : List ℕ) → IsUtf8 (x ∷ xs) → Begins x xs
begins x xs ([], told) = absurd (cc told.1)
begins x xs (c ∷ cs, told) =
    let p = and_parts (scalar c) (scalars cs) told.0 in
    record { char = c; rest = encodes cs; scalar_char = p.0; utf8 = (cs, (p.1, refl)); cut = sym told.1 }

-- after an ASCII byte comes UTF-8
pub utf8_after : (x : ℕ) (xs : List ℕ) → x < 128 → IsUtf8 (x ∷ xs) → IsUtf8 xs
utf8_after x xs low u =
    let b = begins x xs u in
    let same : b.char ≡ x = char_from_byte (x ∷ xs) b.rest b.char b.cut low (omega arith) in
    let one : encode b.char ≡ b.char ∷ [] = encode_ascii b.char (omega arith) in
    let whole : x ∷ xs ≡ b.char ∷ b.rest = b.cut ∙ ap (λ (e : List ℕ). e ++ b.rest) one in
    let rest : b.rest ≡ xs = cc in
    subst IsUtf8 rest b.utf8

-- each byte is above ASCII
abbrev AreHigh : List ℕ → Type 0
AreHigh [] = Unit {0}
AreHigh (b ∷ bytes) = (128 ≤ b) × AreHigh bytes

high_by : (y z : Bool) (c : ℕ) → AreHigh (cond y ((192 + c / 64) ∷ next c ∷ []) (cond z ((224 + c / 4096) ∷ next (c / 64) ∷ next c ∷ []) ((240 + c / 262144) ∷ next (c / 4096) ∷ next (c / 64) ∷ next c ∷ [])))
high_by true z c = (omega arith, (omega arith, tt))
high_by false true c = (omega arith, (omega arith, (omega arith, tt)))
high_by false false c = (omega arith, (omega arith, (omega arith, (omega arith, tt))))

high_encode : (c : ℕ) → 128 ≤ c → AreHigh (encode c)
unfolding encode
high_encode c h = rw (le-ltb c 128 h) (high_by (nat_lt c 2048) (nat_lt c 65536) c)

-- ---- prepended bytes

prepend_more : (a b : List ℕ) (r : Option (List ℕ)) → prepend a (prepend b r) ≡ prepend (a ++ b) r
prepend_more a b None = refl
prepend_more a b (Some s) = ap Some (sym (append_assoc a b s))

-- what holds of what is left holds of all
prepended : (bytes : List ℕ) (r : Option (List ℕ)) (s : List ℕ) → IsUtf8 bytes → ((t : List ℕ) → r ≡ Some t → IsUtf8 t) → prepend bytes r ≡ Some s → IsUtf8 s
prepended bytes None s u good h = absurd (cc h)
prepended bytes (Some t) s u good h = let same : bytes ++ t ≡ s = cc in subst IsUtf8 same (IsUtf8-append bytes t u (good t refl))

utf8_byte : (b : ℕ) → b < 128 → IsUtf8 (b ∷ [])
utf8_byte b low = subst IsUtf8 (encode_ascii b low) (IsUtf8-encode b (low_scalar b (omega arith)))

-- bytes above ASCII stand for themselves
content_high : (bytes rest : List ℕ) → AreHigh bytes → content plain (bytes ++ rest) ≡ prepend bytes (content plain rest)
unfolding content
content_high [] rest h = by (content plain rest)
  where
    by : (r : Option (List ℕ)) → r ≡ prepend [] r
    by None = refl
    by (Some s) = refl
content_high (b ∷ bytes) rest h =
    let high : 128 ≤ b = h.0 in
    rw (ne_eqb b 34 (λ e. omega arith), ne_eqb b 92 (λ e. omega arith), le-ltb b 32 (omega arith))
    (ap (prepend (b ∷ [])) (content_high bytes rest h.1) ∙ prepend_more (b ∷ []) bytes (content plain rest))

-- ---- escapes

-- the byte after a backslash is ASCII, and so is what both stand for
short_ascii : (x c : ℕ) → short_escape x ≡ Some c → (x < 128) × (c < 128)
unfolding short_escape
short_ascii x c =
    let P : Option ℕ → Type 0 = λ o. o ≡ Some c → (x < 128) × (c < 128) in
    let at : (n m : ℕ) → (x == n) ≡ true → n < 128 → m < 128 → P (Some m) = λ n m e low less h. let is : x ≡ n = eqb-true x n e in let same : m ≡ c = cc in (omega arith, omega arith) in
    let itself : (x == 34 || x == 92 || x == 47) ≡ true → P (Some x) = λ e h.
    let same : x ≡ c = cc in
    let small : x < 128 = ⊎_elim (λ f. ⊎_elim (λ g. let is : x ≡ 34 = eqb-true x 34 g in omega arith) (λ g. let is : x ≡ 92 = eqb-true x 92 g in omega arith) (or_cases (x == 34) (x == 92) f)) (λ f. let is : x ≡ 47 = eqb-true x 47 f in omega arith) (or_cases (x == 34 || x == 92) (x == 47) e) in
    (small, omega arith) in
    cond_both (x == 34 || x == 92 || x == 47) _ _ P itself (λ _.
    cond_both (x == 98) _ _ P (λ e. at 98 8 e (omega arith) (omega arith)) (λ _.
    cond_both (x == 102) _ _ P (λ e. at 102 12 e (omega arith) (omega arith)) (λ _.
    cond_both (x == 110) _ _ P (λ e. at 110 10 e (omega arith) (omega arith)) (λ _.
    cond_both (x == 114) _ _ P (λ e. at 114 13 e (omega arith) (omega arith)) (λ _.
    cond_both (x == 116) _ _ P (λ e. at 116 9 e (omega arith) (omega arith)) (λ _ h. absurd (cc h)))))))

-- a digit is ASCII
digit_high : (b : ℕ) → 128 ≤ b → digit_value b ≡ 36
digit_high b h = rw (le-ltb b 48 (omega arith), le-ltb b 58 (omega arith), le-ltb b 65 (omega arith), le-ltb b 91 (omega arith), le-ltb b 97 (omega arith), le-ltb b 123 (omega arith)) refl

digit_ascii : (b : ℕ) → digit_value b < 16 → b < 128
digit_ascii b h = elim (cases_lt b 128) [ inl low ↦ low | inr high ↦ absurd (omega (arith, digit_high b high)) ]

-- four digits are ASCII, and spell a number below 2 ^ 16
record AreDigits (a b c d u : ℕ) : Type 0 where
  first : a < 128
  second : b < 128
  third : c < 128
  fourth : d < 128
  small : u < 65536

unit_by : (t : Bool) (n u : ℕ) → cond t (Some n) None ≡ Some u → (t ≡ true) × (n ≡ u)
unit_by true n u h = (refl, cc)
unit_by false n u h = absurd (cc h)

unit_digits : (a b c d u : ℕ) → code_unit a b c d ≡ Some u → AreDigits a b c d u
unfolding code_unit
unit_digits a b c d u h =
    let t = unit_by (is_digit a 16 && is_digit b 16 && is_digit c 16 && is_digit d 16) (digit_value a * 4096 + digit_value b * 256 + digit_value c * 16 + digit_value d) u h in
    let three = and_parts (is_digit a 16 && is_digit b 16 && is_digit c 16) (is_digit d 16) t.0 in
    let two = and_parts (is_digit a 16 && is_digit b 16) (is_digit c 16) three.0 in
    let one = and_parts (is_digit a 16) (is_digit b 16) two.0 in
    let va : digit_value a < 16 = ltb-true (digit_value a) 16 one.0 in
    let vb : digit_value b < 16 = ltb-true (digit_value b) 16 one.1 in
    let vc : digit_value c < 16 = ltb-true (digit_value c) 16 two.1 in
    let vd : digit_value d < 16 = ltb-true (digit_value d) 16 three.1 in
    let is : digit_value a * 4096 + digit_value b * 256 + digit_value c * 16 + digit_value d ≡ u = t.1 in
    record { first = digit_ascii a va; second = digit_ascii b vb; third = digit_ascii c vc; fourth = digit_ascii d vd; small = omega arith }

-- a number that is no surrogate is a character, and so is a pair of surrogates
unit_scalar : (u : ℕ) → u < 65536 → is_high_surrogate u ≡ false → is_low_surrogate u ≡ false → scalar u ≡ true
unit_scalar u small high low = elim (cases_lt u 55296) [
  | inl under ↦ low_scalar u under
  | inr over ↦
      let above : 56320 ≤ u = ⊎_elim (λ e. absurd (let lt : u < 55296 = leb-false 55296 u e in omega arith)) (λ e. ltb-false u 56320 e) (and_cases (nat_le 55296 u) (nat_lt u 56320) high) in
      let beyond : 57344 ≤ u = ⊎_elim (λ e. absurd (let lt : u < 56320 = leb-false 56320 u e in omega arith)) (λ e. ltb-false u 57344 e) (and_cases (nat_le 56320 u) (nat_lt u 57344) low) in
      rw (le-ltb u 55296 over, le-leb 57344 u beyond, lt-ltb u 1114112 (omega arith)) refl
]

pair_scalar : (h l : ℕ) → is_high_surrogate h ≡ true → is_low_surrogate l ≡ true → scalar (surrogate_pair h l) ≡ true
pair_scalar h l high low =
    let p = and_parts (nat_le 55296 h) (nat_lt h 56320) high in
    let q = and_parts (nat_le 56320 l) (nat_lt l 57344) low in
    let hl : 55296 ≤ h = leb-true 55296 h p.0 in
    let hh : h < 56320 = ltb-true h 56320 p.1 in
    let ll : 56320 ≤ l = leb-true 56320 l q.0 in
    let lh : l < 57344 = ltb-true l 57344 q.1 in
    rw (le-ltb (surrogate_pair h l) 55296 (omega arith), le-leb 57344 (surrogate_pair h l) (omega arith), lt-ltb (surrogate_pair h l) 1114112 (omega arith)) refl

-- ---- all content

-- what is read of at most n bytes is UTF-8
abbrev IsGood : ℕ → Type 0
IsGood n = (xs s : List ℕ) → length xs ≤ n → IsUtf8 xs → content plain xs ≡ Some s → IsUtf8 s

-- what follows four bytes that spell a number
after_four : (a b c d u : ℕ) (xs : List ℕ) → AreDigits a b c d u → IsUtf8 (a ∷ b ∷ c ∷ d ∷ xs) → IsUtf8 xs
after_four a b c d u xs ds utf8 =
    utf8_after d xs ds.fourth (utf8_after c (d ∷ xs) ds.third (utf8_after b (c ∷ d ∷ xs) ds.second (utf8_after a (b ∷ c ∷ d ∷ xs) ds.first utf8)))

module _ (n : ℕ) (good : IsGood n) where
  -- the second number of a pair
  low_by : (low : Bool) (h l : ℕ) (xs s : List ℕ) → is_low_surrogate l ≡ low → is_high_surrogate h ≡ true → length xs ≤ n → IsUtf8 xs
      → cond low (prepend (encode_utf8 (surrogate_pair h l)) (content plain xs)) None ≡ Some s → IsUtf8 s
  low_by true h l xs s low high few utf8 e = prepended (encode (surrogate_pair h l)) (content plain xs) s (IsUtf8-encode (surrogate_pair h l) (pair_scalar h l high low)) (λ t told. good xs t few utf8 told) e
  low_by false h l xs s low high few utf8 e = absurd (cc e)

  high_by_unit : (is : Bool) (unit : Option ℕ) (h x y a b c d : ℕ) (xs s : List ℕ) → (x == 92 && y == 117) ≡ is → code_unit a b c d ≡ unit → is_high_surrogate h ≡ true → length xs ≤ n → IsUtf8 (x ∷ y ∷ a ∷ b ∷ c ∷ d ∷ xs)
      → cond is (option_and_then (λ (l : ℕ). cond (is_low_surrogate l) (prepend (encode_utf8 (surrogate_pair h l)) (content plain xs)) None) unit) None ≡ Some s → IsUtf8 s
  high_by_unit false unit h x y a b c d xs s marks spelt high few utf8 e = absurd (cc e)
  high_by_unit true None h x y a b c d xs s marks spelt high few utf8 e = absurd (cc e)
  high_by_unit true (Some l) h x y a b c d xs s marks spelt high few utf8 e =
      let p = and_parts (x == 92) (y == 117) marks in
      let first : x ≡ 92 = eqb-true x 92 p.0 in
      let second : y ≡ 117 = eqb-true y 117 p.1 in
      let rest = utf8_after y (a ∷ b ∷ c ∷ d ∷ xs) (omega arith) (utf8_after x (y ∷ a ∷ b ∷ c ∷ d ∷ xs) (omega arith) utf8) in
      low_by (is_low_surrogate l) h l xs s refl high few (after_four a b c d l xs (unit_digits a b c d l spelt) rest) e

  high_good : (h : ℕ) (xs s : List ℕ) → is_high_surrogate h ≡ true → length xs ≤ n → IsUtf8 xs → content (after_high h) xs ≡ Some s → IsUtf8 s
  unfolding content
  high_good h [] s high few utf8 e = absurd (cc e)
  high_good h (x ∷ []) s high few utf8 e = absurd (cc e)
  high_good h (x ∷ y ∷ []) s high few utf8 e = absurd (cc e)
  high_good h (x ∷ y ∷ a ∷ []) s high few utf8 e = absurd (cc e)
  high_good h (x ∷ y ∷ a ∷ b ∷ []) s high few utf8 e = absurd (cc e)
  high_good h (x ∷ y ∷ a ∷ b ∷ c ∷ []) s high few utf8 e = absurd (cc e)
  high_good h (x ∷ y ∷ a ∷ b ∷ c ∷ d ∷ xs) s high few utf8 e = high_by_unit (x == 92 && y == 117) (code_unit a b c d) h x y a b c d xs s refl refl high (omega arith) utf8 e

  -- a number by itself, or the first of a pair
  unit_by_kind : (high low : Bool) (u : ℕ) (xs s : List ℕ) → is_high_surrogate u ≡ high → is_low_surrogate u ≡ low → u < 65536 → length xs ≤ n → IsUtf8 xs
      → cond high (content (after_high u) xs) (cond low None (prepend (encode_utf8 u) (content plain xs))) ≡ Some s → IsUtf8 s
  unit_by_kind true low u xs s is other small few utf8 e = high_good u xs s is few utf8 e
  unit_by_kind false true u xs s is other small few utf8 e = absurd (cc e)
  unit_by_kind false false u xs s is other small few utf8 e = prepended (encode u) (content plain xs) s (IsUtf8-encode u (unit_scalar u small is other)) (λ t told. good xs t few utf8 told) e

  unit_by_digits : (unit : Option ℕ) (a b c d : ℕ) (xs s : List ℕ) → code_unit a b c d ≡ unit → length xs ≤ n → IsUtf8 (a ∷ b ∷ c ∷ d ∷ xs)
      → option_and_then (λ (u : ℕ). cond (is_high_surrogate u) (content (after_high u) xs) (cond (is_low_surrogate u) None (prepend (encode_utf8 u) (content plain xs)))) unit ≡ Some s → IsUtf8 s
  unit_by_digits None a b c d xs s spelt few utf8 e = absurd (cc e)
  unit_by_digits (Some u) a b c d xs s spelt few utf8 e =
      let ds = unit_digits a b c d u spelt in
      unit_by_kind (is_high_surrogate u) (is_low_surrogate u) u xs s refl refl ds.small few (after_four a b c d u xs ds utf8) e

  unit_good : (xs s : List ℕ) → length xs ≤ n → IsUtf8 xs → content after_u xs ≡ Some s → IsUtf8 s
  unfolding content
  unit_good [] s few utf8 e = absurd (cc e)
  unit_good (a ∷ []) s few utf8 e = absurd (cc e)
  unit_good (a ∷ b ∷ []) s few utf8 e = absurd (cc e)
  unit_good (a ∷ b ∷ c ∷ []) s few utf8 e = absurd (cc e)
  unit_good (a ∷ b ∷ c ∷ d ∷ xs) s few utf8 e = unit_by_digits (code_unit a b c d) a b c d xs s refl (omega arith) utf8 e

  -- what a backslash stands for
  escape_by : (is : Bool) (short : Option ℕ) (x : ℕ) (xs s : List ℕ) → (x == 117) ≡ is → short_escape x ≡ short → length xs ≤ n → IsUtf8 (x ∷ xs)
      → cond is (content after_u xs) (option_and_then (λ (c : ℕ). prepend (c ∷ []) (content plain xs)) short) ≡ Some s → IsUtf8 s
  escape_by true short x xs s is told few utf8 e = let same : x ≡ 117 = eqb-true x 117 is in unit_good xs s few (utf8_after x xs (omega arith) utf8) e
  escape_by false None x xs s is told few utf8 e = absurd (cc e)
  escape_by false (Some c) x xs s is told few utf8 e =
      let ascii = short_ascii x c told in
      prepended (c ∷ []) (content plain xs) s (utf8_byte c ascii.1) (λ t read. good xs t few (utf8_after x xs ascii.0 utf8) read) e

  escape_good : (xs s : List ℕ) → length xs ≤ n → IsUtf8 xs → content after_backslash xs ≡ Some s → IsUtf8 s
  unfolding content
  escape_good [] s few utf8 e = absurd (cc e)
  escape_good (x ∷ xs) s few utf8 e = escape_by (x == 117) (short_escape x) x xs s refl refl (omega arith) utf8 e

  -- a character that stands for itself
  char_good : (x : ℕ) (xs s : List ℕ) → length xs ≤ n → IsUtf8 (x ∷ xs) → 128 ≤ x → content plain (x ∷ xs) ≡ Some s → IsUtf8 s
  char_good x xs s few utf8 high e =
      let b = begins x xs utf8 in
      let above : 128 ≤ b.char = elim (cases_lt b.char 128) [ inl low ↦ (let same : x ≡ b.char = byte_from_char (x ∷ xs) b.rest b.char b.cut low in absurd (omega arith)) | inr over ↦ over ] in
      let some : 1 ≤ length (encode b.char) = omega (arith, length-encode b.char, (len_utf8_bounds b.char).0) in
      let shorter : length b.rest ≤ length xs = omega (arith, ap (λ (l : List ℕ). length l) b.cut, length-append (encode b.char) b.rest) in
      let read = sym (content_high (encode b.char) b.rest (high_encode b.char above)) ∙ ap (content plain) (sym b.cut) ∙ e in
      prepended (encode b.char) (content plain b.rest) s (IsUtf8-encode b.char b.scalar_char) (λ t told. good b.rest t (omega arith) b.utf8 told) read

  plain_by : (quote backslash control : Bool) (x : ℕ) (xs s : List ℕ) → (x == 34) ≡ quote → (x == 92) ≡ backslash → length xs ≤ n → IsUtf8 (x ∷ xs) → content plain (x ∷ xs) ≡ Some s
      → cond quote (Some []) (cond backslash (content after_backslash xs) (cond control None (prepend (x ∷ []) (content plain xs)))) ≡ Some s → IsUtf8 s
  plain_by true backslash control x xs s q b few utf8 whole e = let same : [] ≡ s = cc in subst IsUtf8 same IsUtf8-nil
  plain_by false true control x xs s q b few utf8 whole e = let same : x ≡ 92 = eqb-true x 92 b in escape_good xs s few (utf8_after x xs (omega arith) utf8) e
  plain_by false false true x xs s q b few utf8 whole e = absurd (cc e)
  plain_by false false false x xs s q b few utf8 whole e = elim (cases_lt x 128) [
    | inl low ↦ prepended (x ∷ []) (content plain xs) s (utf8_byte x low) (λ t told. good xs t few (utf8_after x xs low utf8) told) e
    | inr high ↦ char_good x xs s few utf8 high whole
  ]

good_all : (n : ℕ) → IsGood n
unfolding content
good_all n [] s few utf8 e = absurd (cc e)
good_all zero (x ∷ xs) s few utf8 e = absurd (omega arith)
good_all (suc n) (x ∷ xs) s few utf8 e = plain_by n (good_all n) (x == 34) (x == 92) (nat_lt x 32) x xs s refl refl (omega arith) utf8 e e

-- the content of UTF-8 is UTF-8
pub content_utf8 : (xs s : List ℕ) → IsUtf8 xs → content plain xs ≡ Some s → IsUtf8 s
content_utf8 xs s utf8 e = good_all (length xs) xs s (omega arith) utf8 e
