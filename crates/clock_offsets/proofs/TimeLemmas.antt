-- Times fit signed numbers of 64 bits, and so do their differences.
use Rattle.std.proofs.Common.{◌≡◌, ℕ, ◌<◌, ◌≤◌, ℤ, pos, negsuc, neg_ℤ, ◌≤ℤ◌, ◌-ℤ◌, List, [], ◌∷◌, length, get_or, arith, ◌∙◌}
use Rattle.std.specs.Int.{int_div_euclid}
use Rattle.std.specs.Prelude.{FitsSigned}
use Rattle.std.proofs.lemmas.Int.{ints, to_z-of_z, to_z_pos}
use Rattle.std.proofs.lemmas.List.{get_or-map}
use lib.Signed.{mag}
use mir.Syntax.{w64}
use mir.Val.{to_z, of_z}
use Rattle.trace_types.specs.declared.event.Event.{Event}
use Rattle.clock_offsets.specs.Messages.{IsHalf}
use Rattle.trace_types.specs.Events.{time_at}
use Rattle.trace_types.specs.Times.{latest_time, AreTimely}

pub early_at : (events : List Event) (k : ℕ) → AreTimely events → k < length events → time_at events k ≤ latest_time
early_at [] k a lt = absurd (omega arith)
early_at (x ∷ events) k a lt =
    let is : time_at (x ∷ events) k ≡ (get_or (x ∷ events) k x).time = get_or-map (λ (e : Event). e.time) (x ∷ events) k x 0 lt in
    let early : (get_or (x ∷ events) k x).time ≤ latest_time = a k x lt in
    omega arith

pub time_fits : (t : ℕ) → t ≤ latest_time → FitsSigned w64 (pos t)
time_fits t h = record { sfits = omega arith }

pub time_is : (t : ℕ) → t ≤ latest_time → to_z w64 t ≡ pos t
time_is t h = to_z_pos w64 t (omega arith)

-- a number between -k and k has at most that magnitude
pub mag_within : (k : ℕ) (z : ℤ) → neg_ℤ (pos k) ≤ℤ z → z ≤ℤ pos k → mag z ≤ k
mag_within k (pos n) low high = omega (arith, ints)
mag_within k (negsuc n) low high = omega (arith, ints)

pub difference_fits : (s t : ℕ) → s ≤ latest_time → t ≤ latest_time → FitsSigned w64 (to_z w64 s -ℤ to_z w64 t)
difference_fits s t hs ht = rw (time_is s hs, time_is t ht) (record { sfits = let w : mag (pos s -ℤ pos t) ≤ latest_time = mag_within latest_time (pos s -ℤ pos t) (omega (arith, ints)) (omega (arith, ints)) in omega arith })

pub difference_is : (s t : ℕ) → s ≤ latest_time → t ≤ latest_time → to_z w64 (of_z w64 (to_z w64 s -ℤ to_z w64 t)) ≡ pos s -ℤ pos t
difference_is s t hs ht = to_z-of_z w64 (to_z w64 s -ℤ to_z w64 t) (difference_fits s t hs ht) ∙ (rw (time_is s hs, time_is t ht))

-- Euclid's quotient by 2 is the half, rounded towards minus infinity
pub half_is : (d : ℤ) → IsHalf d (int_div_euclid d (pos 2))
half_is (pos n) = (omega (arith, ints), omega (arith, ints))
half_is (negsuc n) = (omega (arith, ints), omega (arith, ints))
