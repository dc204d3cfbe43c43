-- The places of two names in a circle.
use Rattle.std.proofs.Common.{◌≡◌, ℕ, ◌+◌, ◌-◌, ◌*◌, ◌<◌, ◌≤◌, Bool, true, false, cond, ltb, leb, refl, sym, ap, ◌∙◌, arith}
use Rattle.std.proofs.lemmas.Bool.{leb-false, leb-true, ltb-false, ltb-true}
use Rattle.std.proofs.lemmas.Nat.{mul-add-lt, same_from_place}
use Rattle.name_meetings.specs.inner.Circles.{HasEntry, steps_between, is_in_row, place, width}

-- one name is so many steps behind
same_steps : (names a b c : ℕ) → a < names → b < names → c < names → steps_between names a b ≡ steps_between names a c → b ≡ c
same_steps names a b c ha hb hc e = by (ltb b a) (ltb c a) refl refl e
  where
    by : (x y : Bool) → ltb b a ≡ x → ltb c a ≡ y → cond x (b + names - a) (b - a) ≡ cond y (c + names - a) (c - a) → b ≡ c
    by true true l m e = let p = ltb-true b a l in let q = ltb-true c a m in omega (arith, p, q, e)
    by true false l m e = let p = ltb-true b a l in let q = ltb-false c a m in omega (arith, p, q, e)
    by false true l m e = let p = ltb-false b a l in let q = ltb-true c a m in omega (arith, p, q, e)
    by false false l m e = let p = ltb-false b a l in let q = ltb-false c a m in omega (arith, p, q, e)

-- half of the circle is within a row
pub near_within : (names d : ℕ) → 2 * d ≤ names → d < width names
near_within names d l = omega (arith, l)

-- of two names one is near the other
pub far_is_in_row : (names a b : ℕ) → a < names → b < names → is_in_row names a b ≡ false → 2 * steps_between names b a ≤ names
far_is_in_row names a b ha hb far = by (ltb b a) (ltb a b) refl refl far
  where
    by : (x y : Bool) → ltb b a ≡ x → ltb a b ≡ y → leb (2 * cond x (b + names - a) (b - a)) names ≡ false → 2 * cond y (a + names - b) (a - b) ≤ names
    by true true l m f = let p = ltb-true b a l in let q = ltb-true a b m in omega (arith, p, q)
    by true false l m f = let p = ltb-true b a l in let q = leb-false (2 * (b + names - a)) names f in omega (arith, p, q)
    by false true l m f = let p = ltb-true a b m in let q = leb-false (2 * (b - a)) names f in omega (arith, p, q)
    by false false l m f = let p = ltb-false b a l in let q = ltb-false a b m in omega (arith, p, q)

-- two names have an entry of their own
pub same_place : (names first a b c d : ℕ) → HasEntry names first a b → HasEntry names first c d → place names first a b ≡ place names first c d → (a ≡ c) × (b ≡ d)
same_place names first a b c d k l e =
    let both = same_from_place (a - first) (steps_between names a b) (c - first) (steps_between names c d) (width names) (near_within names (steps_between names a b) k.near) (near_within names (steps_between names c d) l.near) e in
    let rows : a ≡ c = omega (arith, both.0, k.from, l.from) in
    (rows, same_steps names a b d k.one k.other l.other (both.1 ∙ ap (λ (n : ℕ). steps_between names n d) (sym rows)))

-- it is among those of sixteen rows
pub place_within : (names first a b : ℕ) → HasEntry names first a b → place names first a b < width names * 16
place_within names first a b k = mul-add-lt (a - first) (width names) (steps_between names a b) 16 (omega (arith, k.from, k.to)) (near_within names (steps_between names a b) k.near)

pub near_kept : (names first a b : ℕ) → first ≤ a → a < first + 16 → a < names → b < names → is_in_row names a b ≡ true → HasEntry names first a b
near_kept names first a b from to one other near = record { from = from; to = to; one = one; other = other; near = leb-true (2 * steps_between names a b) names near }

pub not_kept : (names first a b : ℕ) → is_in_row names a b ≡ false → HasEntry names first a b → ⊥
not_kept names first a b far kept = let l = leb-false (2 * steps_between names a b) names far in let k = kept.near in omega (arith, l, k)
