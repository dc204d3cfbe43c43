-- Calls of spans that lie within one another on one machine.
use Rattle.std.proofs.Common.{◌≡◌, ◌≢◌, ◌⊎◌, inl, inr, ℕ, zero, suc, ◌+◌, ◌*◌, ◌<◌, ◌≤◌, List, All, Bool, true, false, cond, nat_lt, Option, Some, None, length, get_or, filter, slice_get, refl, sym, ap, ◌∙◌, subst, arith, true≢false}
use Rattle.std.specs.List.{AllPairs, range_with_len}
use Rattle.std.specs.Cmp.{nat_cmp_is}
use Rattle.std.specs.Cmp.Lexicographic.{slice_cmp}
use Rattle.std.specs.Ordering.{is_lt, nat_cmp, ordering_then}
use Rattle.std.specs.declared.cmp.Ordering.{Ordering}
use Rattle.std.specs.declared.cmp.Ordering.TheVariants.{Less, Equal, Greater}
use Rattle.std.proofs.lemmas.Bool.{cases_lt, cases_order, le-ltb, lt-ltb}
use Rattle.std.proofs.lemmas.List.{get_or_default}
use Rattle.std.proofs.lemmas.List.Elements.{All-filter, All-get_or}
use Rattle.std.proofs.lemmas.List.Kept.{AllPairs-filter}
use Rattle.std.proofs.lemmas.Map.Keys.{ge_from_not_lt}
use Rattle.std.proofs.lemmas.Option.{slice_get-get_or}
use Rattle.span_types.specs.declared.span.Span.{Span}
use Rattle.call_trees.specs.Orders.{AreInOrder}
use Rattle.call_trees.specs.Tables.{table_of}
use Rattle.call_trees.proofs.OrderLemmas.{order_within}
use Rattle.call_trees.proofs.TableLemmas.{get_or-table, length-table}
use Rattle.span_requests.specs.CallerNumbers.{AreRoots, HaveLastCallers}
use Rattle.span_requests.proofs.ApartLemmas.{apart_from_rising, apart_permutation, range_rises}
use Rattle.span_calls.specs.Calls.{AreCalls, Moments, is_asked, moments_at, moments_cmp}
use Rattle.span_calls.specs.Seen.{span_at}
use Rattle.span_calls.specs.declared.call.Call.{Call}
use Rattle.span_calls.proofs.RiseLemmas.{Rise, walks_rise}

-- the order of spans by when they start, those of no length first

module _ (spans : List Span) (callers : List (Option ℕ)) where
  -- twice the start, and one more where it takes time
  abbrev pub rank : ℕ → ℕ
  rank d = 2 * (moments_at spans callers d).start + cond (nat_lt (moments_at spans callers d).start (moments_at spans callers d).end) 1 0

  module _ (order : List ℕ) (h : AreInOrder moments_cmp (table_of (moments_at spans callers) (length spans)) order) where
    size : length (table_of (moments_at spans callers) (length spans)) ≡ length spans
    size = length-table (moments_at spans callers) (length spans)

    low : All (λ j. j < length spans) order
    low = order_within moments_cmp (table_of (moments_at spans callers) (length spans)) order (length spans) (sym size) h

    at : (i : ℕ) → i < length order → slice_get (table_of (moments_at spans callers) (length spans)) (get_or order i 0) ≡ Some (moments_at spans callers (get_or order i 0))
    at i lt =
        let less = All-get_or (λ j. j < length spans) order i 0 lt low in
        let d = moments_at spans callers 0 in
        slice_get-get_or (table_of (moments_at spans callers) (length spans)) (get_or order i 0) d (omega (arith, less, size)) ∙ ap (λ (m : Moments). Some m) (get_or-table (moments_at spans callers) (length spans) (get_or order i 0) d less)

    first_not_less : (c e : Ordering) → is_lt (ordering_then c e) ≡ false → is_lt c ≡ false
    first_not_less Less e q = absurd (true≢false q)
    first_not_less Equal e q = refl
    first_not_less Greater e q = refl

    -- of two moments in order, the rank of the first one is not greater
    ranks : (a b : Moments) → is_lt (moments_cmp b a) ≡ false → 2 * a.start + cond (nat_lt a.start a.end) 1 0 ≤ 2 * b.start + cond (nat_lt b.start b.end) 1 0
    ranks a b h = by (cases_order a.start b.start)
      where
        later : Ordering
        later = ordering_then (nat_cmp b.end a.end) (slice_cmp nat_cmp b.id a.id)

        le : a.start ≤ b.start
        le = ge_from_not_lt b.start a.start (first_not_less (nat_cmp b.start a.start) (ordering_then (nat_cmp b.end a.end) (slice_cmp nat_cmp b.id a.id)) h)

        bit : (c : Bool) → cond c 1 0 ≤ 1
        bit true = omega arith
        bit false = omega arith

        tie : a.start ≡ b.start → a.end ≤ b.end
        tie same =
            let equal : nat_cmp b.start a.start ≡ Equal = sym (nat_cmp_is b.start a.start Equal (sym same)) in
            ge_from_not_lt b.end a.end (first_not_less (nat_cmp b.end a.end) (slice_cmp nat_cmp b.id a.id) (sym (ap (λ (o : Ordering). is_lt (ordering_then o (ordering_then (nat_cmp b.end a.end) (slice_cmp nat_cmp b.id a.id)))) equal) ∙ h))

        equal : a.start ≡ b.start → (a.start < a.end) ⊎ (a.end ≤ a.start) → 2 * a.start + cond (nat_lt a.start a.end) 1 0 ≤ 2 * b.start + cond (nat_lt b.start b.end) 1 0
        equal same (inl lt) =
            let more : b.start < b.end = omega (arith, lt, same, tie same) in
            omega (arith, same, bit (nat_lt a.start a.end), ap (λ c. cond {A = ℕ} c 1 0) (lt-ltb b.start b.end more))
        equal same (inr none) = omega (arith, same, ap (λ c. cond {A = ℕ} c 1 0) (le-ltb a.start a.end none))

        by : (a.start ≡ b.start) ⊎ ((a.start < b.start) ⊎ (b.start < a.start)) → 2 * a.start + cond (nat_lt a.start a.end) 1 0 ≤ 2 * b.start + cond (nat_lt b.start b.end) 1 0
        by (inl same) = equal same (cases_lt a.start a.end)
        by (inr (inl lt)) = omega (arith, lt, bit (nat_lt a.start a.end))
        by (inr (inr gt)) = absurd (let e : ⊥ = omega (arith, gt, le) in e)

    next : (i : ℕ) → i + 1 < length order → rank (get_or order i 0) ≤ rank (get_or order (i + 1) 0)
    next i lt =
        let a = moments_at spans callers (get_or order i 0) in
        let b = moments_at spans callers (get_or order (i + 1) 0) in
        ranks a b (h.rise i a b lt (at i (omega (arith, lt))) (at (i + 1) lt))

    rising : (i j : ℕ) → i ≤ j → j < length order → rank (get_or order i 0) ≤ rank (get_or order j 0)
    rising i zero le lt = let e : i ≡ 0 = omega (arith, le) in omega (arith, ap (λ k. rank (get_or order k 0)) e)
    rising i (suc j) le lt = by (cases_lt j i) (λ small. rising i j small (omega (arith, lt)))
      where
        by : (j < i) ⊎ (i ≤ j) → (i ≤ j → rank (get_or order i 0) ≤ rank (get_or order j 0)) → rank (get_or order i 0) ≤ rank (get_or order (suc j) 0)
        by (inl less) before = let e : i ≡ suc j = omega (arith, less, le) in omega (arith, ap (λ k. rank (get_or order k 0)) e)
        by (inr small) before =
            let e : j + 1 ≡ suc j = omega arith in
            omega (arith, before small, next j (omega (arith, lt)), ap (λ k. rank (get_or order k 0)) e)

    apart : AllPairs (λ d e. d ≢ e) order
    apart = apart_permutation (range_with_len 0 (length (table_of (moments_at spans callers) (length spans)))) order h.all
        (apart_from_rising (range_with_len 0 (length (table_of (moments_at spans callers) (length spans)))) (range_rises (length (table_of (moments_at spans callers) (length spans)))))

    pub rank_ordered : AllPairs (λ d e. (rank d ≤ rank e) × (d ≢ e)) order
    rank_ordered i j d lt less = (
      subst (λ x. rank x ≤ rank (get_or order j d)) (get_or_default order i 0 d (omega (arith, lt, less)))
          (subst (λ y. rank (get_or order i 0) ≤ rank y) (get_or_default order j 0 d less) (rising i j (omega (arith, lt)) less)),
      apart i j d lt less,
    )

-- calls of one caller stand in the order of their ranks
module _ (spans : List Span) (callers : List (Option ℕ)) (asked : Option (List ℕ)) (entries : List ℕ) (calls : List Call) (last : HaveLastCallers callers) (roots : AreRoots callers entries) (h : AreCalls spans callers asked entries calls) where
  pub numbers_rise : AllPairs (Rise callers last h.listed.order (rank spans callers) (rank_ordered spans callers h.listed.order h.listed.ordered)) h.numbers
  numbers_rise = subst (AllPairs (Rise callers last h.listed.order (rank spans callers) (rank_ordered spans callers h.listed.order h.listed.ordered))) (sym h.listed.listed)
      (walks_rise callers last h.listed.order (rank spans callers) (rank_ordered spans callers h.listed.order h.listed.ordered) (filter (λ e. is_asked asked (span_at spans e)) entries)
      (All-filter (λ e. is_asked asked (span_at spans e)) (λ e. get_or callers e None ≡ None) entries roots.first)
      (AllPairs-filter (λ d e. d ≢ e) (λ e. is_asked asked (span_at spans e)) entries roots.apart))
