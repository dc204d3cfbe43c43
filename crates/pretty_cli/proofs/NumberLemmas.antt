-- Numbers and figures as they are read.
use Rattle.std.proofs.Common.{◌≡◌, ℕ, ◌<◌, ◌+◌, ◌^◌, List, [], ◌∷◌, if◌then◌else◌, Bool, true, false, not, ◌&&◌, ◌==◌, codes, nat_lt, length, drop, Some, None, refl, sym, ap, ◌∙◌, subst, arith}
use Rattle.std.proofs.lemmas.Bool.{and_parts}
use Rattle.std.proofs.lemmas.Bool.Decides.{nat_tests}
use Rattle.std.proofs.lemmas.Str.Pattern.{starts_text}
use Rattle.std.specs.Char.{digit_value, is_ascii_digit}
use Rattle.std.specs.List.{list_all, starts_with}
use Rattle.std.specs.Str.{IsCharBoundary}
use Rattle.std.specs.Str.Parse.{AllDigits, IsNumeral, digits_value, without_leading_plus}
use Rattle.std.specs.Str.Pattern.{FindsTextPrefix}
use Rattle.std.specs.Prelude.{nat_eq}
use Rattle.pretty_cli.specs.Fields.{figure_of, number_of}
use Rattle.pretty_cli.specs.Relations.{gap_cell}
use Rattle.pretty_cli.specs.declared.cell.Cell.TheVariants.{Difference, Time}

digit_test : (c : ℕ) → digit_value c < 10 → is_ascii_digit c ≡ true
digit_test c h = grind (arith, nat_tests)

test_digit : (c : ℕ) → is_ascii_digit c ≡ true → digit_value c < 10
test_digit c h = grind (arith, nat_tests)

digits_all : (ds : List ℕ) → AllDigits 10 ds → list_all is_ascii_digit ds ≡ true
digits_all [] h = refl
digits_all (d ∷ ds) h = rw (digit_test d h.0, digits_all ds h.1) refl

all_digits : (ds : List ℕ) → list_all is_ascii_digit ds ≡ true → AllDigits 10 ds
all_digits [] h = tt
all_digits (d ∷ ds) h =
    let parts = and_parts (is_ascii_digit d) (list_all is_ascii_digit ds) h in
    (test_digit d parts.0, all_digits ds parts.1)

pub number_is : (text : List ℕ) (n : ℕ) → (IsNumeral 10 (without_leading_plus text) × (digits_value 10 (without_leading_plus text) < 2 ^ 64)) × (n ≡ digits_value 10 (without_leading_plus text)) → n ≡ number_of text
number_is text n h =
    let some : not (length (without_leading_plus text) == 0) ≡ true = grind (arith, nat_tests) in
    let small : nat_lt (digits_value 10 (without_leading_plus text)) (2 ^ 64) ≡ true = grind (arith, nat_tests) in
    rw (some, digits_all (without_leading_plus text) h.0.0.1, small) h.1

by_test : (t : Bool) (v m : ℕ) → (t ≡ true → m ≡ v) → m ≡ (if t then v else m)
by_test true v m h = h refl
by_test false v m h = refl

pub number_is_most : (text : List ℕ) → (IsNumeral 10 (without_leading_plus text) × (digits_value 10 (without_leading_plus text) < 2 ^ 64) → ⊥) → 18446744073709551615 ≡ number_of text
number_is_most text h = by_test _ _ _ (λ all. absurd (h (numeral (without_leading_plus text) all)))
  where
    numeral : (ds : List ℕ) → (not (length ds == 0) && list_all is_ascii_digit ds && nat_lt (digits_value 10 ds) (2 ^ 64)) ≡ true → IsNumeral 10 ds × (digits_value 10 ds < 2 ^ 64)
    numeral ds all =
        let small = and_parts (not (length ds == 0) && list_all is_ascii_digit ds) (nat_lt (digits_value 10 ds) (2 ^ 64)) all in
        let digits = and_parts (not (length ds == 0)) (list_all is_ascii_digit ds) small.0 in
        ((grind (arith, nat_tests, digits.0), all_digits ds digits.1), grind (arith, nat_tests, small.1))

-- the rest of a text behind a name that it begins with
strip_some : (name s x : List ℕ) → ((n : ℕ) × FindsTextPrefix name s (Some n) × (x ≡ drop n s) × (length x + n ≡ length s)) → (starts_with nat_eq s name ≡ true) × (x ≡ drop (length name) s)
strip_some name s x h =
    (sym (starts_text true name s (h.0, h.1, subst (IsCharBoundary s) (sym h.1.0) h.1.2)), h.2 ∙ ap (λ k. drop k s) h.1.0)

pub figure_is : (name s x : List ℕ) → ((n : ℕ) × FindsTextPrefix name s (Some n) × (x ≡ drop n s) × (length x + n ≡ length s)) → number_of x ≡ figure_of name s
figure_is name s x h =
    let parts = strip_some name s x h in
    rw (parts.0, ← parts.1) refl

pub figure_is_most : (name s : List ℕ) → FindsTextPrefix name s None → 18446744073709551615 ≡ figure_of name s
figure_is_most name s h = rw (← starts_text false name s h) refl

-- a gap with a sign, and one without
pub gap_is : (s x : List ℕ) → ((n : ℕ) × FindsTextPrefix (codes "-") s (Some n) × (x ≡ drop n s) × (length x + n ≡ length s)) → Difference 0 (number_of x) ≡ gap_cell s
gap_is s x h =
    let parts = strip_some (codes "-") s x h in
    rw (parts.0, ← parts.1) refl

pub gap_is_time : (s : List ℕ) → FindsTextPrefix (codes "-") s None → Time (number_of s) ≡ gap_cell s
gap_is_time s h = rw (← starts_text false (codes "-") s h) refl
