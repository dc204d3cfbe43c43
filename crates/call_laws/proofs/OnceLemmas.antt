-- Each span of the requests that are asked for is one call.
use Rattle.std.proofs.Common.{◌≡◌, ◌≢◌, ◌⊎◌, inl, inr, ℕ, zero, suc, ◌+◌, ◌<◌, ◌≤◌, List, [], All, true, eq-eqb, Option, Some, None, length, get_or, filter, refl, sym, ap, ◌∙◌, subst, arith}
use Rattle.std.specs.List.{AllPairs, Contains, flat_map, range_with_len}
use Rattle.std.specs.Option.{option_and_then}
use Rattle.std.proofs.lemmas.Bool.{cases_lt}
use Rattle.std.proofs.lemmas.List.{get_or_past}
use Rattle.std.proofs.lemmas.List.Elements.{All-filter, All-from_get_or, All-get_or, All-weaker, filter_passes}
use Rattle.std.proofs.lemmas.List.Kept.{AllPairs-filter}
use Rattle.std.proofs.lemmas.List.Sorted.{Contains-permutation}
use Rattle.call_trees.specs.Below.{below_all, below_one, is_number}
use Rattle.call_trees.specs.Walks.{walk_from, walk_through}
use Rattle.call_trees.proofs.GroupLemmas.{group_at, groups_length}
use Rattle.call_trees.proofs.TableLemmas.{length-table}
use Rattle.span_types.specs.declared.span.Span.{Span}
use Rattle.span_requests.specs.CallerNumbers.{AreCallers, HaveLastCallers, number_above}
use Rattle.span_requests.proofs.CircleLemmas.{above_add, above_more, above_next}
use Rattle.span_requests.proofs.ContainsLemmas.{contains_filter, contains_flat, contains_head, contains_range, contains_tail}
use Rattle.span_calls.specs.Calls.{is_asked, moments_at}
use Rattle.span_calls.specs.Seen.{span_at}
use Rattle.span_calls.specs.declared.call.Call.{Call}
use Rattle.span_calls.proofs.PairLemmas.{ByPairs, all_flat, flat_pairs, pairs_all, pairs_listed}
use Rattle.span_calls.proofs.RiseLemmas.{start_ordered}
use Rattle.span_calls.proofs.UnderLemmas.{IsUnder, all_under, called_at, no_circle, one_above, some_is, some_none}
use Rattle.call_laws.specs.CallLaws.{AreAskedFor, AreCallsOf, EverySpanIsCalled, IsAskedFor, SpansAreCalledOnce}

-- ---- no number stands twice on a walk

module _ (callers : List (Option ℕ)) (last : HaveLastCallers callers) (order : List ℕ) (apart : AllPairs (λ d e. d ≢ e) order) where
  apart_at : (x : ℕ) → ByPairs (λ d e. d ≢ e) (get_or (below_all callers order) x [])
  apart_at x = by (cases_lt x (length callers))
    where
      by : (x < length callers) ⊎ (length callers ≤ x) → ByPairs (λ d e. d ≢ e) (get_or (below_all callers order) x [])
      by (inl lt) = subst (ByPairs (λ d e. d ≢ e)) (sym (group_at callers order x [] lt)) (pairs_listed (λ d e. d ≢ e) (below_one callers order x) (AllPairs-filter (λ d e. d ≢ e) (λ j. is_number x (get_or callers j None)) order apart))
      by (inr ge) = subst (ByPairs (λ d e. d ≢ e)) (sym (get_or_past (below_all callers order) x [] (omega (arith, ge, groups_length callers order)))) tt

  -- what is below two different ones that one number calls, or none, differs
  differs : (n y z : ℕ) → get_or callers y None ≡ get_or callers z None → y ≢ z → All (λ d. All (λ e. d ≢ e) (walk_from (below_all callers order) n z)) (walk_from (below_all callers order) n y)
  differs n y z same ne = All-weaker (IsUnder callers y) (λ d. All (λ e. d ≢ e) (walk_from (below_all callers order) n z))
      (λ d u. All-weaker (IsUnder callers z) (λ e. d ≢ e) (λ e v is. ne (one_above callers last u.0 v.0 d y z u.1 (ap (number_above callers v.0) is ∙ v.1) same)) (walk_from (below_all callers order) n z) (all_under callers order n z))
      (walk_from (below_all callers order) n y) (all_under callers order n y)

  walk_apart : (n x : ℕ) → ByPairs (λ d e. d ≢ e) (walk_from (below_all callers order) n x)
  walk_apart zero x = tt
  walk_apart (suc n) x = (
    all_flat (λ d. x ≢ d) (walk_from (below_all callers order) n) (get_or (below_all callers order) x [])
        (All-weaker (λ y. get_or callers y None ≡ Some x) (λ y. All (λ d. x ≢ d) (walk_from (below_all callers order) n y))
        (λ y e. All-weaker (IsUnder callers y) (λ d. x ≢ d) (λ d u is. no_circle callers last (u.0 + 1) x (omega arith) (ap (number_above callers (u.0 + 1)) is ∙ above_next callers u.0 d y x u.1 e)) (walk_from (below_all callers order) n y) (all_under callers order n y))
        (get_or (below_all callers order) x []) (called_at callers order x)),
    flat_pairs (λ d e. d ≢ e) (λ d e. d ≢ e) (λ y. get_or callers y None ≡ Some x) (walk_from (below_all callers order) n) (λ y e. walk_apart n y) (λ y z one two ne. differs n y z (one ∙ sym two) ne)
        (get_or (below_all callers order) x []) (called_at callers order x) (apart_at x),
  )

  pub walks_apart : (roots : List ℕ) → All (λ e. get_or callers e None ≡ None) roots → AllPairs (λ d e. d ≢ e) roots → AllPairs (λ d e. d ≢ e) (walk_through (below_all callers order) roots)
  walks_apart roots first distinct = pairs_all (λ d e. d ≢ e) (walk_through (below_all callers order) roots)
      (flat_pairs (λ d e. d ≢ e) (λ d e. d ≢ e) (λ y. get_or callers y None ≡ None) (walk_from (below_all callers order) (length (below_all callers order))) (λ y e. walk_apart (length (below_all callers order)) y)
      (λ y z one two ne. differs (length (below_all callers order)) y z (one ∙ sym two) ne) roots first (pairs_listed (λ d e. d ≢ e) roots distinct))

-- ---- a walk comes to each number below it

module _ (callers : List (Option ℕ)) (called : AreCallers callers) where
  -- what is above a number is one too
  pub above_within : (k x y : ℕ) → x < length callers → number_above callers k x ≡ Some y → y < length callers
  above_within zero x y lt h = subst (λ n. n < length callers) (some_is x y h) lt
  above_within (suc k) x y lt h = by (get_or callers x None) refl h (λ c less. above_within k c y less)
    where
      by : (o : Option ℕ) → get_or callers x None ≡ o → option_and_then (number_above callers k) o ≡ Some y → ((c : ℕ) → c < length callers → number_above callers k c ≡ Some y → y < length callers) → y < length callers
      by None e q rest = absurd (some_none y (sym q))
      by (Some c) e q rest = rest c (called x c e) q

  -- the one above, and the one that it calls
  last_step : (k x r : ℕ) → number_above callers (suc k) x ≡ Some r → (y : ℕ) × (number_above callers k x ≡ Some y) × (get_or callers y None ≡ Some r)
  last_step k x r h = by (number_above callers k x) refl
    where
      top : number_above callers (suc k) x ≡ option_and_then (number_above callers 1) (number_above callers k x)
      top = ap (λ n. number_above callers n x) (let e : suc k ≡ k + 1 = omega arith in e) ∙ above_add callers k 1 x

      by : (o : Option ℕ) → number_above callers k x ≡ o → (y : ℕ) × (number_above callers k x ≡ Some y) × (get_or callers y None ≡ Some r)
      by None e = absurd (some_none r (sym h ∙ top ∙ ap (option_and_then (number_above callers 1)) e))
      by (Some y) e = (y, e, also (get_or callers y None) refl)
        where
          one : option_and_then (number_above callers 0) (get_or callers y None) ≡ Some r
          one = sym (top ∙ ap (option_and_then (number_above callers 1)) e) ∙ h

          also : (o : Option ℕ) → get_or callers y None ≡ o → get_or callers y None ≡ Some r
          also None q = absurd (some_none r (sym one ∙ ap (option_and_then (number_above callers 0)) q))
          also (Some c) q = q ∙ sym (ap (option_and_then (number_above callers 0)) q) ∙ one

  module _ (order : List ℕ) (all : (y : ℕ) → y < length callers → Contains order y) where
    pub comes_to : (m k x r : ℕ) → k < m → x < length callers → number_above callers k x ≡ Some r → Contains (walk_from (below_all callers order) m r) x
    comes_to zero k x r lt low h = absurd (omega (arith, lt))
    comes_to (suc m) zero x r lt low h =
        subst (λ z. Contains (walk_from (below_all callers order) (suc m) z) x) (some_is x r h) (contains_head x (flat_map (walk_from (below_all callers order) m) (get_or (below_all callers order) x [])))
    comes_to (suc m) (suc k) x r lt low h =
        let step = last_step k x r h in
        let y = step.0 in
        let less : y < length callers = above_within k x y low step.1 in
        let here : Contains (get_or (below_all callers order) r []) y = subst (λ (ys : List ℕ). Contains ys y) (sym (group_at callers order r [] (called y r step.2)))
        (contains_filter (λ j. is_number r (get_or callers j None)) order y (all y less) (ap (is_number r) step.2 ∙ eq-eqb r r refl)) in
        contains_tail r (flat_map (walk_from (below_all callers order) m) (get_or (below_all callers order) r [])) x
        (contains_flat (walk_from (below_all callers order) m) (get_or (below_all callers order) r []) y x here (comes_to m k x y (omega (arith, lt)) low step.1))

  -- the entry of a number, where callers come to an end
  entry_at : (n x : ℕ) → number_above callers n x ≡ None → (k : ℕ) × (r : ℕ) × (number_above callers k x ≡ Some r) × (get_or callers r None ≡ None)
  entry_at zero x h = absurd (some_none x h)
  entry_at (suc n) x h = by (number_above callers n x) refl (λ e. entry_at n x e)
    where
      top : number_above callers (suc n) x ≡ option_and_then (number_above callers 1) (number_above callers n x)
      top = ap (λ m. number_above callers m x) (let e : suc n ≡ n + 1 = omega arith in e) ∙ above_add callers n 1 x

      by : (o : Option ℕ) → number_above callers n x ≡ o → (number_above callers n x ≡ None → (k : ℕ) × (r : ℕ) × (number_above callers k x ≡ Some r) × (get_or callers r None ≡ None)) → (k : ℕ) × (r : ℕ) × (number_above callers k x ≡ Some r) × (get_or callers r None ≡ None)
      by None e rest = rest e
      by (Some r) e rest = (n, r, e, also (get_or callers r None) refl)
        where
          also : (o : Option ℕ) → get_or callers r None ≡ o → get_or callers r None ≡ None
          also None q = q
          also (Some c) q = absurd (some_none c (sym (ap (option_and_then (number_above callers 0)) q) ∙ sym (top ∙ ap (option_and_then (number_above callers 1)) e) ∙ h))

-- ---- the law

module _ (spans : List Span) (callers : List (Option ℕ)) (asked : Option (List ℕ)) (entries : List ℕ) (calls : List Call) (h : AreCallsOf spans callers asked entries calls) where
  pub order_apart : AllPairs (λ d e. d ≢ e) h.are.listed.order
  order_apart i j d lt less = (start_ordered spans callers h.are.listed.order h.are.listed.ordered i j d lt less).1

  pub order_all : (y : ℕ) → y < length callers → Contains h.are.listed.order y
  order_all y lt = Contains-permutation (range_with_len 0 _) h.are.listed.order y h.are.listed.ordered.all (contains_range _ y (omega (arith, lt, h.same, length-table (moments_at spans callers) (length spans))))

  pub asked_first : All (λ e. get_or callers e None ≡ None) (filter (λ e. is_asked asked (span_at spans e)) entries)
  asked_first = All-filter (λ e. is_asked asked (span_at spans e)) (λ e. get_or callers e None ≡ None) entries h.roots.first

  pub asked_apart : AllPairs (λ d e. d ≢ e) (filter (λ e. is_asked asked (span_at spans e)) entries)
  asked_apart = AllPairs-filter (λ d e. d ≢ e) (λ e. is_asked asked (span_at spans e)) entries h.roots.apart

  asked_yes : All (λ e. is_asked asked (span_at spans e) ≡ true) (filter (λ e. is_asked asked (span_at spans e)) entries)
  asked_yes = filter_passes (λ e. is_asked asked (span_at spans e)) entries

  asked_within : All (λ e. e < length callers) (filter (λ e. is_asked asked (span_at spans e)) entries)
  asked_within = All-filter (λ e. is_asked asked (span_at spans e)) (λ e. e < length callers) entries (All-weaker (λ e. e < length spans) (λ e. e < length callers) (λ e lt. omega (arith, lt, h.same)) entries h.within)

  -- each number is below an entry that is asked for, and within
  abbrev IsListed : ℕ → Type 0
  IsListed n = (n < length spans) × IsAskedFor spans callers asked n

  below_root : (d : ℕ) (r : ℕ) → IsUnder callers r d → r < length callers → d < length spans
  below_root d r u lt = by (cases_lt d (length callers)) u.0 u.1
    where
      by : (d < length callers) ⊎ (length callers ≤ d) → (k : ℕ) → number_above callers k d ≡ Some r → d < length spans
      by (inl less) k e = omega (arith, less, h.same)
      by (inr ge) zero e = omega (arith, some_is d r e, lt, h.same)
      by (inr ge) (suc k) e = absurd (some_none r (sym e ∙ ap (option_and_then (number_above callers k)) (get_or_past callers d None ge)))

  all_listed : All IsListed h.are.numbers
  all_listed = subst (All IsListed) (sym h.are.listed.listed)
      (all_flat IsListed (walk_from (below_all callers h.are.listed.order) (length (below_all callers h.are.listed.order))) (filter (λ e. is_asked asked (span_at spans e)) entries)
      (All-from_get_or (λ r. All IsListed (walk_from (below_all callers h.are.listed.order) (length (below_all callers h.are.listed.order)) r)) (filter (λ e. is_asked asked (span_at spans e)) entries) 0 (λ i lt.
      let es = filter (λ e. is_asked asked (span_at spans e)) entries in
      let r = get_or es i 0 in
      All-weaker (IsUnder callers r) IsListed (λ d u. (
        below_root d r u (All-get_or (λ e. e < length callers) es i 0 lt asked_within),
        record { calls = u.0; entry = r; above = u.1; first = All-get_or (λ e. get_or callers e None ≡ None) es i 0 lt asked_first; wanted = All-get_or (λ e. is_asked asked (span_at spans e) ≡ true) es i 0 lt asked_yes },
      )) (walk_from (below_all callers h.are.listed.order) (length (below_all callers h.are.listed.order)) r) (all_under callers h.are.listed.order (length (below_all callers h.are.listed.order)) r))))

  few : (k x r : ℕ) → x < length callers → number_above callers k x ≡ Some r → k < length (below_all callers h.are.listed.order)
  few k x r lt e = by (cases_lt k (length callers))
    where
      by : (k < length callers) ⊎ (length callers ≤ k) → k < length (below_all callers h.are.listed.order)
      by (inl less) = omega (arith, less, groups_length callers h.are.listed.order)
      by (inr ge) = absurd (some_none r (sym e ∙ above_more callers (length callers) k x ge (h.ends x lt)))

  pub found : (n : ℕ) → n < length spans → IsAskedFor spans callers asked n → Contains h.are.numbers n
  found n lt own =
      let less : n < length callers = omega (arith, lt, h.same) in
      let low : own.entry < length callers = above_within callers h.called own.calls n own.entry less own.above in
      subst (λ (ns : List ℕ). Contains ns n) (sym h.are.listed.listed)
      (contains_flat (walk_from (below_all callers h.are.listed.order) (length (below_all callers h.are.listed.order))) (filter (λ e. is_asked asked (span_at spans e)) entries) own.entry n
      (contains_filter (λ e. is_asked asked (span_at spans e)) entries own.entry (h.roots.all own.entry low own.first) own.wanted)
      (comes_to callers h.called h.are.listed.order order_all (length (below_all callers h.are.listed.order)) own.calls n own.entry (few own.calls n own.entry less own.above) less own.above))

  pub are_asked_for : AreAskedFor spans callers asked h.are.numbers
  are_asked_for = record {
    apart = subst (AllPairs (λ d e. d ≢ e)) (sym h.are.listed.listed) (walks_apart callers h.ends h.are.listed.order order_apart (filter (λ e. is_asked asked (span_at spans e)) entries) asked_first asked_apart);
    within = All-weaker IsListed (λ n. n < length spans) (λ n p. p.0) h.are.numbers all_listed;
    each = All-weaker IsListed (IsAskedFor spans callers asked) (λ n p. p.1) h.are.numbers all_listed;
    all = found;
  }

pub spans_once : SpansAreCalledOnce
spans_once spans callers asked entries calls h = are_asked_for spans callers asked entries calls h

pub every_span : EverySpanIsCalled
every_span spans callers entries calls h n lt =
    let less : n < length callers = omega (arith, lt, h.same) in
    let e = entry_at callers h.called (length callers) n (h.ends n less) in
    found spans callers None entries calls h n lt record { calls = e.0; entry = e.1; above = e.2; first = e.3; wanted = refl }
