-- Pieces by halving.
use Rattle.std.proofs.Common.{◌≡◌, ℕ, suc, ◌+◌, ◌*◌, ◌/◌, ◌^◌, ◌<◌, ◌≤◌, arith, ⊎_elim, subst}
use Rattle.std.specs.Prelude.{max}
use Rattle.std.proofs.Math.Nat.{lt-div-mul-add, mul-le-mul_left, mul-le-mul_right, mul_assoc, max-le, le-max_left, le-max_right, div-mul-le_self}
use Rattle.std.proofs.Math.Pow.{pow_mono}
use Rattle.std.proofs.lemmas.Bool.{cases_lt}
use Rattle.std.proofs.lemmas.Nat.{pow_pos}
use Rattle.worker_limit.specs.Pieces.{MakesAtMost, SharesAmong}
use Rattle.worker_limit.specs.inner.Powers.{IsPowerBelow}

-- where a piece has an even part, and two items where there are more items than pieces
few : (n p r : ℕ) → 0 < p → n / p ≤ r → 1 ≤ r → (p < n → 2 ≤ r) → n + p ≤ 2 * r * p
few n p r some even one two =
    let twice : 2 * r * p ≡ 2 * (r * p) = mul_assoc 2 r p in
    let least : n < n / p * p + p = lt-div-mul-add some in
    let parts : n / p * p ≤ r * p = mul-le-mul_right p even in
    let single : 1 * p ≤ r * p = mul-le-mul_right p one in
    ⊎_elim
    (λ (more : p < n). let double : 2 * p ≤ r * p = mul-le-mul_right p (two more) in omega (arith, twice, least, parts, double))
    (λ (le : n ≤ p). omega (arith, twice, le, single))
    (cases_lt p n)

pub makes_at_most : (most n p r : ℕ) → IsPowerBelow most p → n / p ≤ r → 1 ≤ r → (p < n → 2 ≤ r) → MakesAtMost most n r
makes_at_most most n p r (k, is, below, above) even one two =
    (k, below, few n (2 ^ k) r (pow_pos k) (subst (λ (x : ℕ). n / x ≤ r) is even) one (subst (λ (x : ℕ). x < n → 2 ≤ r) is two))

-- a greater divisor gives no more
div_anti : (n a b : ℕ) → 0 < a → a ≤ b → n / b ≤ n / a
div_anti n a b some le =
    ⊎_elim
    (λ (more : n / a < n / b).
    let least : n < n / a * a + a = lt-div-mul-add some in
    let whole : n / b * b ≤ n = div-mul-le_self n b in
    let up : suc (n / a) * a ≤ n / b * a = mul-le-mul_right a (omega (arith, more)) in
    let wide : n / b * a ≤ n / b * b = mul-le-mul_left (n / b) le in
    let same : suc (n / a) * a ≡ n / a * a + a = omega arith in
    absurd (omega (arith, least, whole, up, wide, same)))
    (λ (no : n / b ≤ n / a). no)
    (cases_lt (n / a) (n / b))

-- no greater power of two is below the limit
no_greater : (m j k : ℕ) → 2 ^ k ≤ m → m < 2 * 2 ^ j → 2 ^ k ≤ 2 ^ j
no_greater m j k le lt =
    ⊎_elim
    (λ (more : j < k). let up : 2 ^ suc j ≤ 2 ^ k = pow_mono (omega (arith, more)) in let step : 2 ^ suc j ≡ 2 * 2 ^ j = omega arith in absurd (omega (arith, le, lt, up, step)))
    (λ (low : k ≤ j). pow_mono low)
    (cases_lt j k)

pub shares_among : (most n p fewest r : ℕ) → IsPowerBelow most p → r ≤ max (max 2 fewest) (n / p) → SharesAmong most n fewest r
shares_among most n p fewest r (j, is, below, above) bound = λ k le.
    let power : 2 ^ k ≤ 2 ^ j = no_greater (max 1 most) j k le above in
    let even : n / 2 ^ j ≤ n / 2 ^ k = div_anti n (2 ^ k) (2 ^ j) (pow_pos k) power in
    let held : r ≤ max (max 2 fewest) (n / 2 ^ j) = subst (λ (x : ℕ). r ≤ max (max 2 fewest) (n / x)) is bound in
    let wider : max (max 2 fewest) (n / 2 ^ j) ≤ max (max 2 fewest) (n / 2 ^ k) = max-le (le-max_left _ _) (let up = le-max_right (max 2 fewest) (n / 2 ^ k) in omega (arith, even, up)) in
    omega (arith, held, wider)
