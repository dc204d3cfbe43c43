-- The calls below one call are in order.
use Rattle.std.proofs.Common.{◌≡◌, ◌⊎◌, inl, inr, ℕ, ◌<◌, ◌≤◌, List, [], ◌∷◌, All, true, Option, Some, None, length, get_or, take, filter, refl, sym, ap, ◌∙◌, subst, true≢false, arith}
use Rattle.std.specs.List.{AllPairs, range_with_len}
use Rattle.std.proofs.lemmas.Bool.{cases_lt, eqb-true}
use Rattle.std.proofs.lemmas.List.{get_or-map, get_or-take, get_or_past, length-map, length-take-le}
use Rattle.std.proofs.lemmas.List.Elements.{All-filter, All-from_get_or, All-get_or, All-take, filter_passes}
use Rattle.std.proofs.lemmas.List.FromFn.{get_or-range_with_len, length-range_with_len}
use Rattle.std.proofs.lemmas.List.Kept.{AllPairs-filter}
use Rattle.std.proofs.lemmas.Option.{slice_get-get_or}
use Rattle.call_trees.specs.Below.{below_one, is_number}
use Rattle.call_trees.proofs.GroupLemmas.{group_at, groups_length}
use Rattle.span_calls.specs.Calls.{AreBefore, StartInOrder}
use Rattle.span_calls.specs.declared.call.Call.{Call}
use Rattle.context_forks.specs.Forks.{callers_of, calls_below}
use Rattle.context_forks.specs.Partners.{start_of}
use Rattle.context_forks.specs.inner.Siblings.{AreSiblings}

pub siblings_take : (calls : List Call) (below : List ℕ) (n : ℕ) → n ≤ length below → AreSiblings calls below → AreSiblings calls (take n below)
siblings_take calls below n le h = record {
  within = All-take (λ i. i < length calls) n below h.within;
  rise = λ i j d lt low.
      let small : j < n = omega (arith, low, length-take-le n below le) in
      let early : i < n = omega (arith, lt, small) in
      subst (λ k. start_of calls k ≤ start_of calls (get_or (take n below) j d)) (sym (get_or-take n below i d early))
      (subst (λ k. start_of calls (get_or below i d) ≤ start_of calls k) (sym (get_or-take n below j d small)) (h.rise i j d lt (omega (arith, small, le))));
}

pub callers_size : (calls : List Call) → length (callers_of calls) ≡ length calls
callers_size calls = length-map calls (λ (c : Call). c.caller)

pub numbers_within : (n : ℕ) → All (λ i. i < n) (range_with_len 0 n)
numbers_within n = All-from_get_or (λ i. i < n) (range_with_len 0 n) 0 (λ i lt. omega (arith, lt, length-range_with_len 0 n, get_or-range_with_len 0 n i 0 (omega (arith, lt, length-range_with_len 0 n))))

-- each caller is a call
abbrev pub AreCallers : List (Option ℕ) → Type 0
AreCallers callers = (k n : ℕ) → get_or callers k None ≡ Some n → n < length callers

pub are_callers : (calls : List Call) → AreBefore calls → AreCallers (callers_of calls)
are_callers calls before k n e = by calls refl
  where
    none_some : None ≡ Some n → ⊥
    none_some q = cc

    by : (xs : List Call) → calls ≡ xs → n < length (callers_of calls)
    by [] q = absurd (none_some (sym (get_or_past (callers_of calls) k None (omega (arith, callers_size calls, ap length q))) ∙ e))
    by (d ∷ xs) q = cases (cases_lt k (length calls))
      where
        cases : (k < length calls) ⊎ (length calls ≤ k) → n < length (callers_of calls)
        cases (inl lt) =
            let less = before k (get_or calls k d) n (slice_get-get_or calls k d lt) (sym (get_or-map (λ (c : Call). c.caller) calls k d None lt) ∙ e) in
            omega (arith, lt, less, callers_size calls)
        cases (inr ge) = absurd (none_some (sym (get_or_past (callers_of calls) k None (omega (arith, ge, callers_size calls))) ∙ e))

module _ (calls : List Call) (rise : StartInOrder calls) where
  is_some_number : (n : ℕ) (o : Option ℕ) → is_number n o ≡ true → o ≡ Some n
  is_some_number n None h = absurd (true≢false (sym h))
  is_some_number n (Some m) h = ap (λ k. Some k) (eqb-true m n h)

  numbers_rise : (n : ℕ) → AllPairs (λ i j. i < j) (range_with_len 0 n)
  numbers_rise n i j d lt low =
      let small : j < n = omega (arith, low, length-range_with_len 0 n) in
      omega (arith, lt, get_or-range_with_len 0 n i d (omega (arith, lt, small)), get_or-range_with_len 0 n j d small)

  start_at : (i : ℕ) (d : Call) → i < length calls → start_of calls i ≡ (get_or calls i d).start
  start_at i d lt = get_or-map (λ (c : Call). c.start) calls i d 0 lt

  caller_at : (i : ℕ) (d : Call) → i < length calls → get_or (callers_of calls) i None ≡ (get_or calls i d).caller
  caller_at i d lt = get_or-map (λ (c : Call). c.caller) calls i d None lt

  starts_rise : (p i j : ℕ) → i < j → j < length calls → is_number p (get_or (callers_of calls) i None) ≡ true → is_number p (get_or (callers_of calls) j None) ≡ true → start_of calls i ≤ start_of calls j
  starts_rise p i j lt low own also = by calls refl
    where
      by : (xs : List Call) → calls ≡ xs → start_of calls i ≤ start_of calls j
      by [] e = absurd (omega (arith, low, ap length e))
      by (d ∷ xs) e =
          let early : i < length calls = omega (arith, lt, low) in
          let a = rise i j (get_or calls i d) (get_or calls j d) p lt (slice_get-get_or calls i d early) (slice_get-get_or calls j d low)
          (sym (caller_at i d early) ∙ is_some_number p (get_or (callers_of calls) i None) own) (sym (caller_at j d low) ∙ is_some_number p (get_or (callers_of calls) j None) also) in
          omega (arith, a, start_at i d early, start_at j d low)

  below_siblings : (p : ℕ) → AreSiblings calls (below_one (callers_of calls) (range_with_len 0 (length calls)) p)
  below_siblings p = record { within = within; rise = rises }
    where
      within : All (λ i. i < length calls) (filter (λ j. is_number p (get_or (callers_of calls) j None)) (range_with_len 0 (length calls)))
      within = All-filter (λ j. is_number p (get_or (callers_of calls) j None)) (λ i. i < length calls) (range_with_len 0 (length calls)) (numbers_within (length calls))

      passes : All (λ j. is_number p (get_or (callers_of calls) j None) ≡ true) (filter (λ j. is_number p (get_or (callers_of calls) j None)) (range_with_len 0 (length calls)))
      passes = filter_passes (λ j. is_number p (get_or (callers_of calls) j None)) (range_with_len 0 (length calls))

      rises : AllPairs (λ i j. start_of calls i ≤ start_of calls j) (filter (λ j. is_number p (get_or (callers_of calls) j None)) (range_with_len 0 (length calls)))
      rises k l d lt low =
          let ys = filter (λ j. is_number p (get_or (callers_of calls) j None)) (range_with_len 0 (length calls)) in
          starts_rise p (get_or ys k d) (get_or ys l d)
          (AllPairs-filter (λ i j. i < j) (λ j. is_number p (get_or (callers_of calls) j None)) (range_with_len 0 (length calls)) (numbers_rise (length calls)) k l d lt low)
          (All-get_or (λ i. i < length calls) ys l d low within)
          (All-get_or (λ j. is_number p (get_or (callers_of calls) j None) ≡ true) ys k d (omega (arith, lt, low)) passes)
          (All-get_or (λ j. is_number p (get_or (callers_of calls) j None) ≡ true) ys l d low passes)

  -- the calls below the call at an index
  pub siblings_at : (below : List (List ℕ)) (k : ℕ) (d : List ℕ) → below ≡ calls_below calls → k < length below → AreSiblings calls (get_or below k d)
  siblings_at below k d e lt =
      let less : k < length (callers_of calls) = omega (arith, lt, ap length e, groups_length (callers_of calls) (range_with_len 0 (length calls))) in
      subst (AreSiblings calls) (sym (ap (λ (ls : List (List ℕ)). get_or ls k d) e ∙ group_at (callers_of calls) (range_with_len 0 (length calls)) k d less)) (below_siblings k)
