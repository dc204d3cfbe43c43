-- The value of digits, digit by digit.
use Rattle.std.proofs.Common.{◌≡◌, ℕ, ◌+◌, ◌-◌, ◌*◌, ◌^◌, ◌<◌, ◌≤◌, List, length, take, get_or, Bool, true, false, Some, None, arith, refl}
use Rattle.std.specs.Prelude.{nat_lt, if◌then◌else◌}
use Rattle.std.specs.List.{list_all}
use Rattle.std.specs.Char.{is_ascii_digit, digit_value}
use Rattle.std.specs.Str.Parse.{digits_value}
use Rattle.std.proofs.lemmas.Bool.{le-ltb}
use Rattle.std.proofs.lemmas.Bool.Decides.{nat_tests}
use Rattle.std.proofs.lemmas.Int.Digits.{digits_value_more}
use Rattle.std.proofs.lemmas.Str.Parse.{digits_value-take-le}
use Rattle.std.proofs.lemmas.List.Folds.{list_all_at}

-- what all bytes pass, each passes
all_at : (p : ℕ → Bool) (xs : List ℕ) (i : ℕ) (b : Bool) → p (get_or xs i 0) ≡ b → list_all p xs ≡ true → i < length xs → b ≡ true
all_at p xs i true e all lt = refl
all_at p xs i false e all lt = let f : list_all p xs ≡ false = list_all_at p xs i 0 lt e in cc

decimal_digit : (c : ℕ) → is_ascii_digit c ≡ true → digit_value c ≡ c - 48
decimal_digit c h = grind (arith, nat_tests)

-- the value of a digit more
pub digits_grow : (ds : List ℕ) (i n d : ℕ) → list_all is_ascii_digit ds ≡ true → i < length ds → n ≡ digits_value 10 (take i ds) → d ≡ get_or ds i 0 - 48 → n * 10 + d ≡ digits_value 10 (take (i + 1) ds)
digits_grow ds i n d all lt e f =
    let g : digit_value (get_or ds i 0) ≡ get_or ds i 0 - 48 = decimal_digit (get_or ds i 0) (all_at is_ascii_digit ds i (is_ascii_digit (get_or ds i 0)) refl all lt) in
    let h : digits_value 10 (take (i + 1) ds) ≡ digits_value 10 (take i ds) * 10 + digit_value (get_or ds i 0) = digits_value_more 10 ds i lt in
    omega (arith, e, f, g, h)

-- digits of which the first ones are over 64 bits are over 64 bits
pub digits_over : (ds : List ℕ) (i n : ℕ) → n ≡ digits_value 10 (take i ds) → 2 ^ 64 ≤ n → None ≡ (if nat_lt (digits_value 10 ds) (2 ^ 64) then Some (digits_value 10 ds) else None)
digits_over ds i n e over =
    let le : digits_value 10 (take i ds) ≤ digits_value 10 ds = digits_value-take-le 10 ds i (omega arith) in
    let b : nat_lt (digits_value 10 ds) (2 ^ 64) ≡ false = le-ltb (digits_value 10 ds) (2 ^ 64) (omega (arith, e, over, le)) in
    rw b refl
