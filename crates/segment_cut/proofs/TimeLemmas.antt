-- The adjusted_time times, event by event.
use Rattle.std.proofs.Common.{◌≡◌, ℕ, ◌+◌, ◌<◌, ◌≤◌, ℤ, pos, negsuc, List, [], ◌∷◌, ◌++◌, length, All, arith, sym, ap, ◌∙◌, subst, ⊎_elim}
use Rattle.std.proofs.lemmas.Bool.{cases_lt}
use Rattle.std.proofs.lemmas.List.{get_or_append_left, get_or_push, length_push}
use Rattle.std.proofs.lemmas.List.Elements.{All-push, All-get_or}
use Rattle.std.specs.Prelude.{FitsSigned}
use Rattle.std.proofs.lemmas.Int.{ints}
use mir.Syntax.{w64}
use Rattle.trace_types.specs.declared.event.Event.{Event}
use Rattle.trace_types.specs.Events.{machine_at, line_at, time_at}
use Rattle.clock_offsets.specs.Offsets.{IsOffset, adjusted_time}
use Rattle.segment_cut.specs.AdjustedTimes.{HasAdjustedTime, adjusted_at, IsInClockRange, IsLineOutOfRange}
use Rattle.segment_cut.specs.inner.Times.{AreTimes}

-- a time in range fits 64 bits
pub range_fits : (t : ℤ) → IsInClockRange t → FitsSigned w64 t
range_fits (pos n) h = record { sfits = omega (arith, ints) }
range_fits (negsuc n) h = record { sfits = omega (arith, ints) }

-- times are the adjusted_time times of the first n events, and in range
pub record AreTimesTo (events : List Event) (n : ℕ) (times : List ℤ) : Type 0 where
  pub each : length times ≡ n
  pub value : (k : ℕ) → k < n → HasAdjustedTime events k (adjusted_at times k)
  pub in_range : All IsInClockRange times

-- the adjusted_time time of the event at k, by its machine's offset
pub adjusted_is : (events : List Event) (k time : ℕ) (o t : ℤ) → time ≡ time_at events k → IsOffset events (machine_at events k) o → t ≡ adjusted_time time o → HasAdjustedTime events k t
adjusted_is events k time o t own offset t_is = (o, offset, t_is ∙ ap (λ (n : ℕ). adjusted_time n o) own)

pub times_push : (events : List Event) (n : ℕ) (times : List ℤ) (t : ℤ) → AreTimesTo events n times → HasAdjustedTime events n t → IsInClockRange t → AreTimesTo events (n + 1) (times ++ t ∷ [])
times_push events n times t a here range = record {
  each = length_push times t ∙ ap (λ k. k + 1) a.each;
  value = λ k lt. ⊎_elim
      (λ (below : k < n). subst (λ (x : ℤ). HasAdjustedTime events k x) (sym (get_or_append_left times (t ∷ []) (pos 0) k (let e : length times ≡ n = a.each in omega arith))) (a.value k below))
      (λ (above : n ≤ k). let same : n ≡ k = omega arith in
      subst (λ (i : ℕ). HasAdjustedTime events i (adjusted_at (times ++ t ∷ []) i)) same (subst (λ (x : ℤ). HasAdjustedTime events n x) (sym (get_or_push times t (pos 0) n a.each)) here))
      (cases_lt k n);
  in_range = All-push IsInClockRange times t a.in_range range;
}

pub times_done : (events : List Event) (n : ℕ) (times : List ℤ) → AreTimesTo events n times → n ≡ length events → AreTimes events times
times_done events n times a all = (record { each = a.each ∙ all; value = λ k lt. a.value k (omega arith) }, a.in_range)

pub times_fault : (events : List Event) (n line : ℕ) (times : List ℤ) (t : ℤ) → AreTimesTo events n times → n < length events → HasAdjustedTime events n t → (IsInClockRange t → ⊥) → line ≡ line_at events n → IsLineOutOfRange events line
times_fault events n line times t a lt here out is = (
  n,
  lt,
  (t, here, out),
  λ j before. let within : j < length times = (let e : length times ≡ n = a.each in omega arith) in (adjusted_at times j, a.value j before, All-get_or IsInClockRange times j (pos 0) within a.in_range),
  is,
)
