-- Places on a scale.
use Rattle.std.proofs.Common.{◌≡◌, ℕ, ◌<◌, ◌≤◌, ◌+◌, ◌-◌, ◌*◌, ◌/◌, ◌^◌, ◌==◌, Bool, true, false, refl, arith}
use Rattle.std.specs.Prelude.{if◌then◌else◌, min}
use Rattle.std.proofs.lemmas.Bool.{eqb-false, eqb-true}
use Rattle.std.proofs.Math.Nat.{div-le_of_le-mul, div-mul-le_self, le-div_iff_mul-le, mul-le-mul_left}
use Rattle.picture_parts.specs.Places.{PartIsExact, PartIsOnScale, PartsKeepOrder, SpanIsWithin, SpansAreApart, place_of}

pub on_scale : PartIsOnScale
on_scale steps n full = by (full == 0)
  where
    by : (b : Bool) → (if b then 0 else min steps (n * steps / full)) ≤ steps
    by true = omega arith
    by false = omega arith

-- of two numbers the greater has the greater quotient
div_keeps : (m n k : ℕ) → 0 < k → m ≤ n → m / k ≤ n / k
div_keeps m n k some le = (le-div_iff_mul-le {k = k} {x = m / k} {y = n} (omega (arith, some))).1 (omega (arith, div-mul-le_self m k, le))

pub keep_order : PartsKeepOrder
keep_order steps n m full le = by (full == 0) refl
  where
    by : (b : Bool) → (full == 0) ≡ b → (if b then 0 else min steps (n * steps / full)) ≤ (if b then 0 else min steps (m * steps / full))
    by true e = omega arith
    by false e =
        let some : 0 < full = omega (arith, eqb-false full 0 e) in
        let product : n * steps ≤ m * steps = omega (arith, mul-le-mul_left steps le) in
        let quotient : n * steps / full ≤ m * steps / full = div_keeps (n * steps) (m * steps) full some product in
        omega (arith, quotient)

divided : (p k : ℕ) → 0 < k → (p / k * k ≤ p) × (p < p / k * k + k)
divided p k h = (omega arith, omega arith)

pub exact : PartIsExact
exact steps n full le some = by (full == 0) refl
  where
    product : n * steps ≤ full * steps
    product = omega (arith, mul-le-mul_left steps le)

    quotient : n * steps / full ≤ steps
    quotient = div-le_of_le-mul full product

    by : (b : Bool) → (full == 0) ≡ b → ((if b then 0 else min steps (n * steps / full)) * full ≤ n * steps) × (n * steps < (if b then 0 else min steps (n * steps / full)) * full + full)
    by true e = absurd (omega (arith, eqb-true full 0 e, some))
    by false e =
        let q : min steps (n * steps / full) ≡ n * steps / full = omega (arith, quotient) in
        rw q (divided (n * steps) full some)

pub is_within : SpanIsWithin
is_within from to full = within (place_of from full) (place_of to full) (on_scale 100000 from full) (on_scale 100000 to full)
  where
    within : (a b : ℕ) → a ≤ 100000 → b ≤ 100000 → a + (b - a) ≤ 100000
    within a b p q = omega arith

pub are_apart : SpansAreApart
are_apart from to start end full first second = apart (place_of from full) (place_of to full) (place_of start full) (keep_order 100000 from to full first) (keep_order 100000 to start full second)
  where
    apart : (a b c : ℕ) → a ≤ b → b ≤ c → a + (b - a) ≤ c
    apart a b c p q = omega arith

-- a product that fits 128 bits
pub product_fits : (n steps : ℕ) → n < 2 ^ 90 → steps < 2 ^ 32 → n * steps < 2 ^ 128
product_fits n steps p q =
    let bounded : n ≤ 2 ^ 90 = omega (arith, p) in
    let a : steps * n ≤ steps * 2 ^ 90 = mul-le-mul_left steps bounded in
    omega (arith, a, q)
