-- The keys of the events, made event by event.
use Rattle.std.proofs.Common.{◌≡◌, ℕ, ◌+◌, ◌<◌, ◌≤◌, ℤ, List, [], ◌∷◌, ◌++◌, length, get_or, arith, sym, ap, ◌∙◌, subst, ⊎_elim}
use Rattle.std.proofs.lemmas.Bool.{cases_lt}
use Rattle.std.proofs.lemmas.List.{get_or_append_left, get_or_push, length_push, map_push}
use Rattle.trace_types.specs.declared.event.Event.{Event}
use Rattle.segment_cut.specs.AdjustedTimes.{HasAdjustedTime, IsInClockRange}
use Rattle.segment_cut.specs.inner.Keys.{AreInLineOrder, Key, no_key, key_at, key_times}
use Rattle.segment_cut.specs.inner.Times.{AreTimes}
use Rattle.segment_cut.proofs.TimeLemmas.{AreTimesTo, times_push, times_done}

-- the keys of the first n events
pub record AreKeysTo (tasks : List ℕ) (events : List Event) (n : ℕ) (keys : List Key) : Type 0 where
  pub times : AreTimesTo events n (key_times keys)
  pub each : length keys ≡ n
  pub task : (p : ℕ) → p < n → (key_at keys p).0 ≡ get_or tasks p 0
  pub place : (p : ℕ) → p < n → (key_at keys p).2 ≡ p

pub keys_push : (tasks : List ℕ) (events : List Event) (n : ℕ) (keys : List Key) (task : ℕ) (t : ℤ) → AreKeysTo tasks events n keys → task ≡ get_or tasks n 0 → HasAdjustedTime events n t → IsInClockRange t → AreKeysTo tasks events (n + 1) (keys ++ (task, t, n) ∷ [])
keys_push tasks events n keys task t a is here range = record {
  times = subst (AreTimesTo events (n + 1)) (sym (map_push (λ (k : Key). k.1) keys (task, t, n))) (times_push events n (key_times keys) t a.times here range);
  each = length_push keys (task, t, n) ∙ ap (λ k. k + 1) a.each;
  task = λ p lt. ⊎_elim
      (λ (below : p < n). ap (λ (k : Key). k.0) (old p below) ∙ a.task p below)
      (λ (above : n ≤ p). let same : n ≡ p = omega arith in ap (λ (k : Key). k.0) (new p same) ∙ (is ∙ ap (λ i. get_or tasks i 0) same))
      (cases_lt p n);
  place = λ p lt. ⊎_elim
      (λ (below : p < n). ap (λ (k : Key). k.2) (old p below) ∙ a.place p below)
      (λ (above : n ≤ p). let same : n ≡ p = omega arith in ap (λ (k : Key). k.2) (new p same) ∙ same)
      (cases_lt p n);
}
  where
    old : (p : ℕ) → p < n → key_at (keys ++ (task, t, n) ∷ []) p ≡ key_at keys p
    old p below = get_or_append_left keys ((task, t, n) ∷ []) no_key p (let e : length keys ≡ n = a.each in omega arith)

    new : (p : ℕ) → n ≡ p → key_at (keys ++ (task, t, n) ∷ []) p ≡ (task, t, n)
    new p same = get_or_push keys (task, t, n) no_key p (a.each ∙ same)

pub keys_made : (tasks : List ℕ) (events : List Event) (n : ℕ) (keys : List Key) → AreKeysTo tasks events n keys → n ≡ length events → length tasks ≡ length events → AreInLineOrder tasks keys × AreTimes events (key_times keys)
keys_made tasks events n keys a all each = (
  record {
    each = a.each ∙ (all ∙ sym each);
    task = λ p lt. a.task p (let e : length keys ≡ n = a.each in omega arith);
    place = λ p lt. a.place p (let e : length keys ≡ n = a.each in omega arith);
  },
  times_done events n (key_times keys) a.times all,
)
