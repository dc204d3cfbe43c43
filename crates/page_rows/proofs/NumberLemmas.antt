-- The value of digits, digit by digit.
use Rattle.std.proofs.Common.{◌≡◌, ℕ, suc, ◌+◌, ◌-◌, ◌*◌, ◌^◌, ◌<◌, ◌≤◌, List, length, take, get_or, Bool, true, false, arith, refl, ap, ◌∙◌}
use Rattle.std.specs.List.{list_all}
use Rattle.std.specs.Char.{is_ascii_digit, digit_value}
use Rattle.std.specs.Str.Parse.{digits_value}
use Rattle.std.proofs.lemmas.Bool.Decides.{nat_tests}
use Rattle.std.proofs.lemmas.Int.Digits.{digits_value_more}
use Rattle.std.proofs.lemmas.List.Folds.{list_all_at}
use Rattle.std.proofs.Math.Nat.{pow-suc, pow-le-pow_right}

-- what all bytes pass, each passes
all_at : (p : ℕ → Bool) (xs : List ℕ) (i : ℕ) (b : Bool) → p (get_or xs i 0) ≡ b → list_all p xs ≡ true → i < length xs → b ≡ true
all_at p xs i true e all lt = refl
all_at p xs i false e all lt = let f : list_all p xs ≡ false = list_all_at p xs i 0 lt e in cc

decimal_digit : (c : ℕ) → is_ascii_digit c ≡ true → (digit_value c ≡ c - 48) × (c < 58)
decimal_digit c h = (grind (arith, nat_tests), grind (arith, nat_tests))

-- the value of a digit more
pub digits_grow : (ds : List ℕ) (i n d : ℕ) → list_all is_ascii_digit ds ≡ true → i < length ds → n ≡ digits_value 10 (take i ds) → d ≡ get_or ds i 0 - 48 → n * 10 + d ≡ digits_value 10 (take (i + 1) ds)
digits_grow ds i n d all lt e f =
    let g : digit_value (get_or ds i 0) ≡ get_or ds i 0 - 48 = (decimal_digit (get_or ds i 0) (all_at is_ascii_digit ds i (is_ascii_digit (get_or ds i 0)) refl all lt)).0 in
    let h : digits_value 10 (take (i + 1) ds) ≡ digits_value 10 (take i ds) * 10 + digit_value (get_or ds i 0) = digits_value_more 10 ds i lt in
    omega (arith, e, f, g, h)

-- a digit is below ten
pub digit_small : (ds : List ℕ) (i d : ℕ) → list_all is_ascii_digit ds ≡ true → i < length ds → d ≡ get_or ds i 0 - 48 → d < 10
digit_small ds i d all lt f =
    let g : get_or ds i 0 < 58 = (decimal_digit (get_or ds i 0) (all_at is_ascii_digit ds i (is_ascii_digit (get_or ds i 0)) refl all lt)).1 in
    omega (arith, f, g)

-- a digit more: its value stays below the next power, and within 128 bits
pub value_grows : (n i len d : ℕ) → n < 10 ^ i → i < len → len ≤ 24 → d < 10 → (n * 10 + d < 10 ^ (i + 1)) × (n * 10 + d < 2 ^ 128)
value_grows n i len d small lt le digit =
    let s : i + 1 ≡ suc i = omega arith in
    let p : 10 ^ (i + 1) ≡ 10 ^ i * 10 = ap (λ k. 10 ^ k) s ∙ pow-suc 10 i in
    let q : 10 ^ (i + 1) ≤ 10 ^ 24 = pow-le-pow_right {n = 10} (omega arith) {i = i + 1} {j = 24} (omega (arith, lt, le)) in
    (omega (arith, p, small, digit), omega (arith, p, q, small, digit))

-- a number of at most 24 digits is below 2^80
pub value_small : (n i : ℕ) → n < 10 ^ i → i ≤ 24 → n < 2 ^ 80
value_small n i small le =
    let q : 10 ^ i ≤ 10 ^ 24 = pow-le-pow_right {n = 10} (omega arith) {i = i} {j = 24} le in
    omega (arith, q, small)
