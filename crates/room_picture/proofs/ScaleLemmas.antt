-- Places on a scale whose steps grow.
use Rattle.std.proofs.Common.{◌≡◌, ℕ, ◌≤◌, ◌+◌, ◌-◌, ◌*◌, ◌==◌, List, [], ◌∷◌, Bool, true, false, refl, arith}
use Rattle.std.specs.Prelude.{if◌then◌else◌, sum_by}
use Rattle.std.proofs.lemmas.Bool.{eqb-false, eqb-true}
use Rattle.std.proofs.lemmas.List.Sums.{sum_by-cons}
use Rattle.picture_parts.specs.Places.{PartIsOnScale, PartsKeepOrder, part_of}
use Rattle.room_picture.specs.Scales.{RoomPlaceIsWithin, RoomPlacesKeepOrder, RoomSpanIsWithin, base_of, decade_part, decades, room_place, room_span, steps_to}

-- of two functions the one that is nowhere greater has no greater sum
sums_keep : (f g : ℕ → ℕ) → ((x : ℕ) → f x ≤ g x) → (xs : List ℕ) → sum_by f xs ≤ sum_by g xs
sums_keep f g h [] = omega arith
sums_keep f g h (x ∷ xs) = rw (sum_by-cons f x xs, sum_by-cons g x xs) (add (f x) (sum_by f xs) (g x) (sum_by g xs) (h x) (sums_keep f g h xs))
  where
    add : (a b c d : ℕ) → a ≤ c → b ≤ d → a + b ≤ c + d
    add a b c d p q = omega arith

module _ (on_scale : PartIsOnScale) (keep_order : PartsKeepOrder) where
  pub within : RoomPlaceIsWithin
  unfolding room_place
  within least full n = by (n == 0) (part_of 84000 (steps_to n - base_of least) (steps_to full - base_of least)) (on_scale 84000 (steps_to n - base_of least) (steps_to full - base_of least))
    where
      by : (b : Bool) (p : ℕ) → p ≤ 84000 → (if b then 2000 else 12000 + p) ≤ 96000
      by true p h = omega arith
      by false p h = omega arith

  -- of two times the longer one reaches as far into a decade
  decade_order : (n m power : ℕ) → n ≤ m → decade_part n power ≤ decade_part m power
  decade_order n m power le =
      let first = keep_order 1000 (n - power) (m - power) power (omega (arith, le)) in
      let second = keep_order 1000 (n - 2 * power) (m - 2 * power) (3 * power) (omega (arith, le)) in
      let third = keep_order 1000 (n - 5 * power) (m - 5 * power) (5 * power) (omega (arith, le)) in
      add (part_of 1000 (n - power) power) _ _ _ _ _ first second third
    where
      add : (a b c x y z : ℕ) → a ≤ x → b ≤ y → c ≤ z → a + (b + c) ≤ x + (y + z)
      add a b c x y z p q r = omega arith

  sum_order : (n m : ℕ) (powers : List ℕ) → n ≤ m → sum_by (decade_part n) powers ≤ sum_by (decade_part m) powers
  sum_order n m powers le = sums_keep (decade_part n) (decade_part m) (λ power. decade_order n m power le) powers

  less_order : (a b base : ℕ) → a ≤ b → a - base ≤ b - base
  less_order a b base h = omega (arith, h)

  pub order : RoomPlacesKeepOrder
  unfolding room_place
  order least full n m le = by (n == 0) (m == 0) refl refl _ _ (keep_order 84000 (steps_to n - base_of least) (steps_to m - base_of least) (steps_to full - base_of least) (less_order (steps_to n) (steps_to m) (base_of least) (sum_order n m decades le)))
    where
      by : (b d : Bool) → (n == 0) ≡ b → (m == 0) ≡ d → (p q : ℕ) → p ≤ q → (if b then 2000 else 12000 + p) ≤ (if d then 2000 else 12000 + q)
      by true true e f p q h = omega arith
      by true false e f p q h = omega arith
      by false true e f p q h = absurd (omega (arith, eqb-false n 0 e, eqb-true m 0 f, le))
      by false false e f p q h = omega arith

  pub spans : RoomSpanIsWithin
  unfolding room_span
  spans least full from to = add (room_place least full from) (room_place least full to) (within least full from) (within least full to)
    where
      add : (a b : ℕ) → a ≤ 96000 → b ≤ 96000 → a + (b - a) ≤ 96000
      add a b p q = omega arith
