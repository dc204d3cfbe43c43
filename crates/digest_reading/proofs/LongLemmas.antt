-- A number in plain digits is what is printed for it.
use Rattle.std.proofs.Common.{◌≡◌, ◌↔◌, ℕ, ◌^◌, ◌<◌, List, length, get_or, Bool, true, false, not, ◌&&◌, Some, None, arith, refl, sym, ap, ◌∙◌, subst, inl, inr}
use Rattle.std.specs.Prelude.{decimal, nat_lt, ◌==◌, if◌then◌else◌, Option}
use Rattle.std.specs.List.{list_all}
use Rattle.std.specs.Char.{is_ascii_digit}
use Rattle.std.specs.Str.Parse.{digits_value}
use Rattle.std.proofs.lemmas.Bool.{cases_lt, eqb-true, lt-ltb, ltb-true}
use Rattle.std.proofs.lemmas.Bool.Decides.{nat_tests}
use Rattle.std.proofs.lemmas.Fmt.{decimal-digits_value, digits_decimal, digits_value-decimal, decimal_nonempty, first_decimal, decimal_digit}
use Rattle.std.specs.Str.{bytes_eq}
use Rattle.std.proofs.lemmas.Slice.Eq.{bytes_eq-Decides}
use Rattle.trace_types.proofs.TruthLemmas.{and_false}
use Rattle.trace_types.proofs.DecimalLemmas.{decimal_numerals}
use Rattle.digest_reading.specs.Headers.{long_number}
use Rattle.step_core.specs.PlainDigits.{has_leading_zero, is_plain}

parts : (a b c : Bool) → (a && b && c) ≡ true → (a ≡ true) × (b ≡ true) × (c ≡ true)
parts true true true h = (refl, refl, refl)
parts true true false h = cc
parts true false c h = cc
parts false b c h = cc

no_leading_zero : (len first : ℕ) → not (nat_lt 1 len && (first == 48)) ≡ true → 0 < len → first ≡ 48 → len ≡ 1
no_leading_zero len first h pos e = grind (arith, nat_tests)

some_byte : (len : ℕ) → not (len == 0) ≡ true → 0 < len
some_byte len h = grind (arith, nat_tests)

-- plain digits are printed for their value
printed : (word : List ℕ) → is_plain word ≡ true → digits_value 10 word < 2 ^ 64 → decimal (digits_value 10 word) ≡ word
printed word h lt =
    let p = parts (not (length word == 0)) (not (has_leading_zero word)) (list_all is_ascii_digit word) h in
    let pos : 0 < length word = some_byte (length word) p.0 in
    decimal-digits_value decimal_numerals word p.2 pos (λ zero. no_leading_zero (length word) (get_or word 0 0) p.1 pos zero) (omega (arith, lt))

joined : (a b c : Bool) → a ≡ true → b ≡ true → c ≡ true → (a && b && c) ≡ true
joined a b c e f g = rw (e, f, g) refl

not_zero_byte : (len : ℕ) → 0 < len → not (len == 0) ≡ true
not_zero_byte len h = grind (arith, nat_tests)

starts_plain : (len first : ℕ) → (first ≡ 48 → len ≡ 1) → not (nat_lt 1 len && (first == 48)) ≡ true
starts_plain len first h = by (first == 48) refl
  where
    by : (b : Bool) → (first == 48) ≡ b → not (nat_lt 1 len && (first == 48)) ≡ true
    by true e = let z : len ≡ 1 = h (eqb-true first 48 e) in rw z refl
    by false e = let f : (nat_lt 1 len && (first == 48)) ≡ false = rw e (and_false (nat_lt 1 len)) in rw f refl

first_plain : (n : ℕ) → n < 2 ^ 64 → get_or (decimal n) 0 0 ≡ 48 → length (decimal n) ≡ 1
first_plain n lt e = elim (cases_lt 0 n) [
  | inl pos ↦ absurd (omega (arith, first_decimal n pos (omega (arith, lt)), e))
  | inr none ↦ let z : n ≡ 0 = omega (arith, none) in rw z (ap length (decimal_digit 0 (omega arith)))
]

-- what is printed for a number is plain digits
plain : (n : ℕ) → n < 2 ^ 64 → is_plain (decimal n) ≡ true
plain n lt =
    joined _ _ _ (not_zero_byte (length (decimal n)) (decimal_nonempty n (omega (arith, lt)))) (starts_plain (length (decimal n)) (get_or (decimal n) 0 0) (first_plain n lt)) (digits_decimal decimal_numerals n (omega (arith, lt)))

-- a word that is printed for the value of its digits
same_word : (n : ℕ) (word : List ℕ) → decimal n ≡ word → bytes_eq (decimal n) word ≡ true
same_word n word e = (bytes_eq-Decides (decimal n) word).1 e

of_word : (n : ℕ) (word : List ℕ) (a b : Bool) → nat_lt (digits_value 10 word) (2 ^ 64) ≡ a → bytes_eq (decimal (digits_value 10 word)) word ≡ b → long_number word ≡ Some n → decimal n ≡ word
of_word n word true true e f h =
    let k : Some (digits_value 10 word) ≡ Some n = rw (e, f) at h in
    let same : digits_value 10 word ≡ n = cc in
    ap decimal (sym same) ∙ (bytes_eq-Decides (decimal (digits_value 10 word)) word).0 f
of_word n word true false e f h = let k : None ≡ Some n = rw (e, f) at h in cc
of_word n word false b e f h = let k : None ≡ Some n = rw e at h in cc

pub of_number : (n : ℕ) → n < 2 ^ 64 → long_number (decimal n) ≡ Some n
of_number n lt =
    let v : digits_value 10 (decimal n) ≡ n = digits_value-decimal decimal_numerals n (omega (arith, lt)) in
    let b : nat_lt n (2 ^ 64) ≡ true = lt-ltb n (2 ^ 64) lt in
    let s : bytes_eq (decimal n) (decimal n) ≡ true = same_word n (decimal n) refl in
    rw (v, b, s) refl

pub as_printed : (n : ℕ) (word : List ℕ) → n < 2 ^ 64 → (long_number word ≡ Some n) ↔ (decimal n ≡ word)
as_printed n word lt = (
  λ h. of_word n word (nat_lt (digits_value 10 word) (2 ^ 64)) (bytes_eq (decimal (digits_value 10 word)) word) refl refl h,
  λ h. subst (λ (w : List ℕ). long_number w ≡ Some n) h (of_number n lt),
)

-- a word that is not plain digits is no number
pub not_plain : (word : List ℕ) → is_plain word ≡ false → None ≡ long_number word
not_plain word h = by (nat_lt (digits_value 10 word) (2 ^ 64)) (bytes_eq (decimal (digits_value 10 word)) word) refl refl
  where
    by : (a b : Bool) → nat_lt (digits_value 10 word) (2 ^ 64) ≡ a → bytes_eq (decimal (digits_value 10 word)) word ≡ b → None ≡ long_number word
    by true true e f =
        let same : decimal (digits_value 10 word) ≡ word = (bytes_eq-Decides (decimal (digits_value 10 word)) word).0 f in
        let p : is_plain word ≡ true = subst (λ (w : List ℕ). is_plain w ≡ true) same (plain (digits_value 10 word) (ltb-true (digits_value 10 word) (2 ^ 64) e)) in
        let both : true ≡ false = sym p ∙ h in
        cc
    by true false e f = rw (e, f) refl
    by false b e f = rw e refl

-- plain digits are the number that they have as their value, where it fits 64 bits
pub plain_value : (word : List ℕ) (r : Option ℕ) → is_plain word ≡ true → r ≡ (if nat_lt (digits_value 10 word) (2 ^ 64) then Some (digits_value 10 word) else None) → r ≡ long_number word
plain_value word r h k = by (nat_lt (digits_value 10 word) (2 ^ 64)) refl
  where
    by : (a : Bool) → nat_lt (digits_value 10 word) (2 ^ 64) ≡ a → r ≡ long_number word
    by true e =
        let s : bytes_eq (decimal (digits_value 10 word)) word ≡ true = same_word (digits_value 10 word) word (printed word h (ltb-true (digits_value 10 word) (2 ^ 64) e)) in
        k ∙ rw (e, s) refl
    by false e = k ∙ rw e refl
