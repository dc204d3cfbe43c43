-- What a call calls stands in the order in which it starts: a walk lists it so.
use Rattle.std.proofs.Common.{◌≡◌, ◌≢◌, ◌⊎◌, inl, inr, ℕ, zero, suc, ◌+◌, ◌<◌, ◌≤◌, List, [], All, false, eqb, Option, Some, None, length, get_or, filter, take, slice_get, refl, sym, ap, ◌∙◌, subst, arith, true≢false}
use Rattle.std.specs.Prelude.{position}
use Rattle.std.specs.List.{AllPairs, flat_map, range_with_len}
use Rattle.std.specs.Option.{option_and_then}
use Rattle.std.specs.Cmp.Lexicographic.{slice_cmp}
use Rattle.std.specs.Ordering.{is_lt, nat_cmp, ordering_then}
use Rattle.std.specs.declared.cmp.Ordering.{Ordering}
use Rattle.std.specs.declared.cmp.Ordering.TheVariants.{Less, Equal, Greater}
use Rattle.std.proofs.lemmas.Bool.{cases_lt, eqb-true}
use Rattle.std.proofs.lemmas.List.{get_or-map, get_or-take, get_or_default, get_or_past, length-take}
use Rattle.std.proofs.lemmas.List.Quantifiers.{position-Some}
use Rattle.std.proofs.lemmas.Map.Keys.{ge_from_not_lt}
use Rattle.std.proofs.lemmas.Option.{get_or_from_slice_get, slice_get-get_or, slice_get_within}
use Rattle.std.proofs.lemmas.List.Elements.{All-filter, All-get_or, All-weaker}
use Rattle.std.proofs.lemmas.List.Kept.{AllPairs-filter}
use Rattle.span_types.specs.declared.span.Span.{Span}
use Rattle.call_trees.specs.Orders.{AreInOrder}
use Rattle.call_trees.specs.Tables.{table_of}
use Rattle.call_trees.proofs.OrderLemmas.{order_within}
use Rattle.call_trees.proofs.TableLemmas.{get_or-table, length-table, length_from_table}
use Rattle.span_calls.specs.Calls.{AreCalls, Moments, StartInOrder, is_asked, moments_at, moments_cmp, position_at}
use Rattle.span_calls.specs.Seen.{span_at}
use Rattle.span_calls.specs.declared.call.Call.{Call}
use Rattle.call_trees.specs.Below.{below_all, below_one, is_number}
use Rattle.call_trees.specs.Walks.{walk_from, walk_through}
use Rattle.call_trees.proofs.GroupLemmas.{group_at, groups_length}
use Rattle.span_requests.specs.CallerNumbers.{AreRoots, HaveLastCallers, number_above}
use Rattle.span_requests.proofs.ApartLemmas.{apart_from_rising, apart_permutation, range_rises}
use Rattle.span_requests.proofs.CircleLemmas.{above_next}
use Rattle.span_calls.proofs.PairLemmas.{ByPairs, all_flat, flat_pairs, pairs_all, pairs_listed}
use Rattle.span_calls.proofs.UnderLemmas.{IsUnder, above_caller, all_under, called_at, no_circle, one_above, some_is, some_none}

module _ (callers : List (Option ℕ)) (last : HaveLastCallers callers) where
  module _ (order : List ℕ) (start : ℕ → ℕ) (ordered : AllPairs (λ d e. (start d ≤ start e) × (d ≢ e)) order) where
    -- of two with one caller the first starts first
    abbrev pub Rise : ℕ → ℕ → Type 0
    Rise d e = (p : ℕ) → get_or callers d None ≡ Some p → get_or callers e None ≡ Some p → start d ≤ start e

    ordered_at : (x : ℕ) → ByPairs (λ d e. (start d ≤ start e) × (d ≢ e)) (get_or (below_all callers order) x [])
    ordered_at x = by (cases_lt x (length callers))
      where
        by : (x < length callers) ⊎ (length callers ≤ x) → ByPairs (λ d e. (start d ≤ start e) × (d ≢ e)) (get_or (below_all callers order) x [])
        by (inl lt) = subst (ByPairs (λ d e. (start d ≤ start e) × (d ≢ e))) (sym (group_at callers order x [] lt))
            (pairs_listed (λ d e. (start d ≤ start e) × (d ≢ e)) (below_one callers order x) (AllPairs-filter (λ d e. (start d ≤ start e) × (d ≢ e)) (λ j. is_number x (get_or callers j None)) order ordered))
        by (inr ge) = subst (ByPairs (λ d e. (start d ≤ start e) × (d ≢ e))) (sym (get_or_past (below_all callers order) x [] (omega (arith, ge, groups_length callers order)))) tt

    -- what is below different ones with one caller
    apart_rise : (y z d e : ℕ) → IsUnder callers y d → IsUnder callers z e → get_or callers y None ≡ get_or callers z None → ((p : ℕ) → get_or callers y None ≡ Some p → start y ≤ start z) → y ≢ z → Rise d e
    apart_rise y z d e u v same first ne p own also = by u.0 v.0 u.1 v.1
      where
        by : (k l : ℕ) → number_above callers k d ≡ Some y → number_above callers l e ≡ Some z → start d ≤ start e
        by zero zero a b =
            let d_is : d ≡ y = some_is d y a in
            let e_is : e ≡ z = some_is e z b in
            omega (arith, ap start d_is, ap start e_is, first p (ap (λ i. get_or callers i None) (sym d_is) ∙ own))
        by zero (suc l) a b =
            let up : number_above callers l p ≡ Some z = sym (above_caller callers l e p also) ∙ b in
            let d_is : d ≡ y = some_is d y a in
            absurd (no_circle callers last (l + 1) p (omega arith) (above_next callers l p z p up (sym same ∙ ap (λ i. get_or callers i None) (sym d_is) ∙ own)))
        by (suc k) zero a b =
            let up : number_above callers k p ≡ Some y = sym (above_caller callers k d p own) ∙ a in
            let e_is : e ≡ z = some_is e z b in
            absurd (no_circle callers last (k + 1) p (omega arith) (above_next callers k p y p up (same ∙ ap (λ i. get_or callers i None) (sym e_is) ∙ also)))
        by (suc k) (suc l) a b = absurd (ne (one_above callers last k l p y z (sym (above_caller callers k d p own) ∙ a) (sym (above_caller callers l e p also) ∙ b) same))

    -- a walk from a number rises
    walk_rises : (n x : ℕ) → ByPairs Rise (walk_from (below_all callers order) n x)
    walk_rises zero x = tt
    walk_rises (suc n) x = (
      All-weaker (λ d. (y : ℕ) × IsUnder callers y d × (get_or callers y None ≡ Some x)) (Rise x) strictly (flat_map (walk_from (below_all callers order) n) (get_or (below_all callers order) x [])) below,
      flat_pairs Rise (λ d e. (start d ≤ start e) × (d ≢ e)) (λ y. get_or callers y None ≡ Some x) (walk_from (below_all callers order) n) (λ y e. walk_rises n y) across (get_or (below_all callers order) x []) (called_at callers order x) (ordered_at x),
    )
      where
        below : All (λ d. (y : ℕ) × IsUnder callers y d × (get_or callers y None ≡ Some x)) (flat_map (walk_from (below_all callers order) n) (get_or (below_all callers order) x []))
        below = all_flat (λ d. (y : ℕ) × IsUnder callers y d × (get_or callers y None ≡ Some x)) (walk_from (below_all callers order) n) (get_or (below_all callers order) x [])
            (All-weaker (λ y. get_or callers y None ≡ Some x) (λ y. All (λ d. (y : ℕ) × IsUnder callers y d × (get_or callers y None ≡ Some x)) (walk_from (below_all callers order) n y))
            (λ y e. All-weaker (IsUnder callers y) (λ d. (y : ℕ) × IsUnder callers y d × (get_or callers y None ≡ Some x)) (λ d u. (y, u, e)) (walk_from (below_all callers order) n y) (all_under callers order n y)) (get_or (below_all callers order) x []) (called_at callers order x))

        strictly : (d : ℕ) → (y : ℕ) × IsUnder callers y d × (get_or callers y None ≡ Some x) → Rise x d
        strictly d h p own also =
            let k = h.1.0 in
            let up : number_above callers (k + 1) d ≡ Some x = above_next callers k d h.0 x h.1.1 h.2 in
            let top : number_above callers (k + 1 + 1) d ≡ Some p = above_next callers (k + 1) d x p up own in
            let i : number_above callers (k + 1) p ≡ Some p = sym (above_caller callers (k + 1) d p also) ∙ ap (λ m. number_above callers m d) (let q : suc (k + 1) ≡ k + 1 + 1 = omega arith in q) ∙ top in
            absurd (no_circle callers last (k + 1) p (omega arith) i)

        across : (y z : ℕ) → get_or callers y None ≡ Some x → get_or callers z None ≡ Some x → (start y ≤ start z) × (y ≢ z) → All (λ d. All (Rise d) (walk_from (below_all callers order) n z)) (walk_from (below_all callers order) n y)
        across y z one two q = All-weaker (IsUnder callers y) (λ d. All (Rise d) (walk_from (below_all callers order) n z))
            (λ d u. All-weaker (IsUnder callers z) (Rise d) (λ e v. apart_rise y z d e u v (one ∙ sym two) (λ p r. q.0) q.1) (walk_from (below_all callers order) n z) (all_under callers order n z)) (walk_from (below_all callers order) n y) (all_under callers order n y)

    -- so does a walk through roots
    pub walks_rise : (roots : List ℕ) → All (λ e. get_or callers e None ≡ None) roots → AllPairs (λ d e. d ≢ e) roots → AllPairs Rise (walk_through (below_all callers order) roots)
    walks_rise roots first apart = pairs_all Rise (walk_through (below_all callers order) roots)
        (flat_pairs Rise (λ d e. d ≢ e) (λ y. get_or callers y None ≡ None) (walk_from (below_all callers order) (length (below_all callers order))) (λ y e. walk_rises (length (below_all callers order)) y) across roots first (pairs_listed (λ d e. d ≢ e) roots apart))
      where
        across : (y z : ℕ) → get_or callers y None ≡ None → get_or callers z None ≡ None → y ≢ z → All (λ d. All (Rise d) (walk_from (below_all callers order) (length (below_all callers order)) z)) (walk_from (below_all callers order) (length (below_all callers order)) y)
        across y z one two ne = All-weaker (IsUnder callers y) (λ d. All (Rise d) (walk_from (below_all callers order) (length (below_all callers order)) z))
            (λ d u. All-weaker (IsUnder callers z) (Rise d) (λ e v. apart_rise y z d e u v (one ∙ sym two) (λ p r. absurd (some_none p (sym r ∙ one))) ne) (walk_from (below_all callers order) (length (below_all callers order)) z) (all_under callers order (length (below_all callers order)) z))
            (walk_from (below_all callers order) (length (below_all callers order)) y) (all_under callers order (length (below_all callers order)) y)

-- the order of spans by when they start
module _ (spans : List Span) (callers : List (Option ℕ)) (order : List ℕ) (h : AreInOrder moments_cmp (table_of (moments_at spans callers) (length spans)) order) where
  size : length (table_of (moments_at spans callers) (length spans)) ≡ length spans
  size = length-table (moments_at spans callers) (length spans)

  low : All (λ j. j < length spans) order
  low = order_within moments_cmp (table_of (moments_at spans callers) (length spans)) order (length spans) (sym size) h

  at : (i : ℕ) → i < length order → slice_get (table_of (moments_at spans callers) (length spans)) (get_or order i 0) ≡ Some (moments_at spans callers (get_or order i 0))
  at i lt =
      let less = All-get_or (λ j. j < length spans) order i 0 lt low in
      let d = moments_at spans callers 0 in
      slice_get-get_or (table_of (moments_at spans callers) (length spans)) (get_or order i 0) d (omega (arith, less, size)) ∙ ap (λ (m : Moments). Some m) (get_or-table (moments_at spans callers) (length spans) (get_or order i 0) d less)

  first_not_less : (c e : Ordering) → is_lt (ordering_then c e) ≡ false → is_lt c ≡ false
  first_not_less Less e q = absurd (true≢false q)
  first_not_less Equal e q = refl
  first_not_less Greater e q = refl

  next : (i : ℕ) → i + 1 < length order → (moments_at spans callers (get_or order i 0)).start ≤ (moments_at spans callers (get_or order (i + 1) 0)).start
  next i lt =
      let a = moments_at spans callers (get_or order i 0) in
      let b = moments_at spans callers (get_or order (i + 1) 0) in
      ge_from_not_lt b.start a.start (first_not_less (nat_cmp b.start a.start) (ordering_then (nat_cmp b.end a.end) (slice_cmp nat_cmp b.id a.id)) (h.rise i a b lt (at i (omega (arith, lt))) (at (i + 1) lt)))

  rising : (i j : ℕ) → i ≤ j → j < length order → (moments_at spans callers (get_or order i 0)).start ≤ (moments_at spans callers (get_or order j 0)).start
  rising i zero le lt = let e : i ≡ 0 = omega (arith, le) in omega (arith, ap (λ k. (moments_at spans callers (get_or order k 0)).start) e)
  rising i (suc j) le lt = by (cases_lt j i) (λ small. rising i j small (omega (arith, lt)))
    where
      by : (j < i) ⊎ (i ≤ j) → (i ≤ j → (moments_at spans callers (get_or order i 0)).start ≤ (moments_at spans callers (get_or order j 0)).start) → (moments_at spans callers (get_or order i 0)).start ≤ (moments_at spans callers (get_or order (suc j) 0)).start
      by (inl less) before = let e : i ≡ suc j = omega (arith, less, le) in omega (arith, ap (λ k. (moments_at spans callers (get_or order k 0)).start) e)
      by (inr small) before =
          let e : j + 1 ≡ suc j = omega arith in
          omega (arith, before small, next j (omega (arith, lt)), ap (λ k. (moments_at spans callers (get_or order k 0)).start) e)

  apart : AllPairs (λ d e. d ≢ e) order
  apart = apart_permutation (range_with_len 0 (length (table_of (moments_at spans callers) (length spans)))) order h.all
      (apart_from_rising (range_with_len 0 (length (table_of (moments_at spans callers) (length spans)))) (range_rises (length (table_of (moments_at spans callers) (length spans)))))

  pub start_ordered : AllPairs (λ d e. ((moments_at spans callers d).start ≤ (moments_at spans callers e).start) × (d ≢ e)) order
  start_ordered i j d lt less = (
    subst (λ x. (moments_at spans callers x).start ≤ (moments_at spans callers (get_or order j d)).start) (get_or_default order i 0 d (omega (arith, lt, less)))
        (subst (λ y. (moments_at spans callers (get_or order i 0)).start ≤ (moments_at spans callers y).start) (get_or_default order j 0 d less) (rising i j (omega (arith, lt)) less)),
    apart i j d lt less,
  )

-- the calls that one call makes stand in the order in which they start
module _ (spans : List Span) (callers : List (Option ℕ)) (asked : Option (List ℕ)) (entries : List ℕ) (calls : List Call) (last : HaveLastCallers callers) (roots : AreRoots callers entries) (h : AreCalls spans callers asked entries calls) where
  asked_first : All (λ e. get_or callers e None ≡ None) (filter (λ e. is_asked asked (span_at spans e)) entries)
  asked_first = All-filter (λ e. is_asked asked (span_at spans e)) (λ e. get_or callers e None ≡ None) entries roots.first

  asked_apart : AllPairs (λ d e. d ≢ e) (filter (λ e. is_asked asked (span_at spans e)) entries)
  asked_apart = AllPairs-filter (λ d e. d ≢ e) (λ e. is_asked asked (span_at spans e)) entries roots.apart

  numbers_rise : AllPairs (Rise callers last h.listed.order (λ d. (moments_at spans callers d).start) (start_ordered spans callers h.listed.order h.listed.ordered)) h.numbers
  numbers_rise = subst (AllPairs (Rise callers last h.listed.order (λ d. (moments_at spans callers d).start) (start_ordered spans callers h.listed.order h.listed.ordered))) (sym h.listed.listed)
      (walks_rise callers last h.listed.order (λ d. (moments_at spans callers d).start) (start_ordered spans callers h.listed.order h.listed.ordered) (filter (λ e. is_asked asked (span_at spans e)) entries) asked_first asked_apart)

  pub within : (i : ℕ) (a : Call) → slice_get calls i ≡ Some a → i < length h.numbers
  within i a there = omega (arith, slice_get_within calls i a there, length_from_table (position_at callers h.numbers) (λ (k : Call). k.caller) calls (length h.numbers) h.are.called)

  start_is : (i : ℕ) (a : Call) → slice_get calls i ≡ Some a → a.start ≡ (moments_at spans callers (get_or h.numbers i 0)).start
  start_is i a there =
      ap (λ (k : Call). k.start) (sym (get_or_from_slice_get calls i a a there)) ∙ sym (get_or-map (λ (k : Call). k.start) calls i a 0 (slice_get_within calls i a there))
      ∙ ap (λ (xs : List ℕ). get_or xs i 0) h.are.starts ∙ get_or-map (λ k. (moments_at spans callers k).start) h.numbers i 0 0 (within i a there)

  pub caller_is : (i c : ℕ) (a : Call) → slice_get calls i ≡ Some a → a.caller ≡ Some c → get_or callers (get_or h.numbers i 0) None ≡ Some (get_or h.numbers c 0)
  caller_is i c a there up = by (get_or callers (get_or h.numbers i 0) None) refl
    where
      own : Some c ≡ position_at callers h.numbers i
      own =
          sym (ap (λ (k : Call). k.caller) (get_or_from_slice_get calls i a a there) ∙ up) ∙ sym (get_or-map (λ (k : Call). k.caller) calls i a None (slice_get_within calls i a there))
          ∙ ap (λ (xs : List (Option ℕ)). get_or xs i None) h.are.called ∙ get_or-table (position_at callers h.numbers) (length h.numbers) i None (within i a there)

      by : (o : Option ℕ) → get_or callers (get_or h.numbers i 0) None ≡ o → o ≡ Some (get_or h.numbers c 0)
      by None e = absurd (some_none c (own ∙ ap (option_and_then (λ d. position (λ k. eqb k d) (take i h.numbers))) e))
      by (Some d) e =
          let found = position-Some (λ k. eqb k d) (take i h.numbers) c 0 (sym (own ∙ ap (option_and_then (λ d. position (λ k. eqb k d) (take i h.numbers))) e)) in
          ap (λ (n : ℕ). Some n) (sym (sym (get_or-take i h.numbers c 0 (omega (arith, found.0, length-take i h.numbers))) ∙ eqb-true (get_or (take i h.numbers) c 0) d found.1))

  pub calls_rise : StartInOrder calls
  calls_rise i j a b c lt there here one two =
      let p = get_or h.numbers c 0 in
      let less = numbers_rise i j 0 lt (within j b here) p (caller_is i c a there one) (caller_is j c b here two) in
      omega (arith, less, start_is i a there, start_is j b here)
