-- A text of digits that is parsed as a number.
use Rattle.std.proofs.Common.{◌≡◌, subst, sym, ℕ, ◌^◌, ◌<◌, ◌==◌, ◌&&◌, List, [], ◌∷◌, length, Bool, true, false, nat_lt, Option, Some, None, Result, Ok, Err, refl, ap, arith, lt-ltb, ltb-true, eqb-true}
use Rattle.std.specs.Result.{OkIff, result_ok}
use Rattle.std.specs.List.{list_all}
use Rattle.std.specs.Char.{is_ascii_digit, digit_value}
use Rattle.std.specs.Int.{IsInRange}
use Rattle.std.proofs.lemmas.Str.{digit_value_digit}
use Rattle.std.proofs.lemmas.Bool.Decides.{nat_tests}
use Rattle.std.specs.Str.Parse.{AllDigits, IsNumeral, ParsesUnsigned, digits_value, without_leading_plus}
use Rattle.span_text.specs.Numbers.{is_decimal, whole_number}

both_true : (a b : Bool) → (a && b) ≡ true → (a ≡ true) × (b ≡ true)
both_true true true e = (refl, refl)
both_true true false e = absurd (cc)
both_true false b e = absurd (cc)

is_digit : (c : ℕ) → is_ascii_digit c ≡ true → IsInRange 48 57 c
is_digit c e = grind (arith, nat_tests)

all_digits : (cs : List ℕ) → list_all is_ascii_digit cs ≡ true → AllDigits 10 cs
all_digits [] e = tt
all_digits (c ∷ cs) e =
    let both = both_true _ _ e in
    let within = is_digit c both.0 in
    (omega (arith, digit_value_digit c within), all_digits cs both.1)

no_plus : (c : ℕ) → is_ascii_digit c ≡ true → (c == 43) ≡ false
no_plus c e = let within = is_digit c e in grind (arith, nat_tests)

plain_parsed : {E : Type 0} (text : List ℕ) (r : Result ℕ E) → is_decimal text ≡ true → OkIff r (IsNumeral 10 text × (digits_value 10 text < 2 ^ 64)) (digits_value 10 text) → result_ok r ≡ whole_number text
plain_parsed text (Ok n) e h = rw (e, lt-ltb _ _ h.0.1, h.1) refl
plain_parsed text (Err x) e h = let large = too_large (nat_lt (digits_value 10 text) (2 ^ 64)) refl in rw (e, large) refl
  where
    numeral : IsNumeral 10 text
    numeral = let both = both_true _ _ e in (ltb-true _ _ both.0, all_digits text both.1)

    too_large : (b : Bool) → nat_lt (digits_value 10 text) (2 ^ 64) ≡ b → nat_lt (digits_value 10 text) (2 ^ 64) ≡ false
    too_large false f = f
    too_large true f = absurd (h (numeral, ltb-true _ _ f))

-- a text of digits has no sign before them
pub parsed : {E : Type 0} (text : List ℕ) (r : Result ℕ E) → is_decimal text ≡ true → ParsesUnsigned 64 10 text r → result_ok r ≡ whole_number text
parsed [] r e h = absurd (cc)
parsed (c ∷ cs) r e h =
    let first : is_ascii_digit c ≡ true = (both_true _ _ (both_true _ _ e).1).0 in
    let plain : without_leading_plus (c ∷ cs) ≡ c ∷ cs = rw (no_plus c first) refl in
    plain_parsed (c ∷ cs) r e (subst (λ (ds : List ℕ). OkIff r (IsNumeral 10 ds × (digits_value 10 ds < 2 ^ 64)) (digits_value 10 ds)) plain h)
