-- The least and the greatest time so far.
use Rattle.std.proofs.Common.{◌≡◌, ℕ, ◌+◌, ◌<◌, ◌≤◌, List, length, sym, subst, arith, inl, inr}
use Rattle.std.proofs.lemmas.Bool.{cases_lt}
use Rattle.trace_types.specs.declared.event.Event.{Event}
use Rattle.trace_types.specs.Events.{time_at}

-- of the first so many events these are the least and the greatest time
pub record AreTimesBelow (events : List Event) (n least greatest : ℕ) : Type 0 where
  pub some_least : (k : ℕ) × (k < length events) × (time_at events k ≡ least)
  pub none_less : (k : ℕ) → k < n → least ≤ time_at events k
  pub some_greatest : (k : ℕ) × (k < length events) × (time_at events k ≡ greatest)
  pub none_greater : (k : ℕ) → k < n → time_at events k ≤ greatest
  pub ordered : least ≤ greatest

pub one_time : (events : List Event) (time : ℕ) → 0 < length events → time ≡ time_at events 0 → AreTimesBelow events 1 time time
one_time events time some is = record {
  some_least = (0, some, sym is);
  none_less = λ k lt. let first : k ≡ 0 = omega arith in subst (λ (j : ℕ). time ≤ time_at events j) (sym first) (omega (arith, is));
  some_greatest = (0, some, sym is);
  none_greater = λ k lt. let first : k ≡ 0 = omega arith in subst (λ (j : ℕ). time_at events j ≤ time) (sym first) (omega (arith, is));
  ordered = omega arith;
}

-- one event more
module _ (events : List Event) (n least greatest time : ℕ) (h : AreTimesBelow events n least greatest) (lt : n < length events) (is : time ≡ time_at events n) where
  up_to : (P : ℕ → Type 0) → ((k : ℕ) → k < n → P k) → P n → (k : ℕ) → k < n + 1 → P k
  up_to P below here k l = elim (cases_lt k n) [
    | inl less ↦ below k less
    | inr ge ↦ let same : n ≡ k = omega arith in subst P same here
  ]

  pub less_time : time < least → AreTimesBelow events (n + 1) time greatest
  less_time less = record {
    some_least = (n, lt, sym is);
    none_less = up_to (λ (k : ℕ). time ≤ time_at events k) (λ k l. omega (arith, h.none_less k l, less)) (omega (arith, is));
    some_greatest = h.some_greatest;
    none_greater = up_to (λ (k : ℕ). time_at events k ≤ greatest) h.none_greater (omega (arith, is, less, h.ordered));
    ordered = omega (arith, less, h.ordered);
  }

  pub greater_time : least ≤ time → greatest < time → AreTimesBelow events (n + 1) least time
  greater_time ge more = record {
    some_least = h.some_least;
    none_less = up_to (λ (k : ℕ). least ≤ time_at events k) h.none_less (omega (arith, is, ge));
    some_greatest = (n, lt, sym is);
    none_greater = up_to (λ (k : ℕ). time_at events k ≤ time) (λ k l. omega (arith, h.none_greater k l, more)) (omega (arith, is));
    ordered = omega (arith, ge);
  }

  pub same_times : least ≤ time → time ≤ greatest → AreTimesBelow events (n + 1) least greatest
  same_times ge le = record {
    some_least = h.some_least;
    none_less = up_to (λ (k : ℕ). least ≤ time_at events k) h.none_less (omega (arith, is, ge));
    some_greatest = h.some_greatest;
    none_greater = up_to (λ (k : ℕ). time_at events k ≤ greatest) h.none_greater (omega (arith, is, le));
    ordered = h.ordered;
  }
