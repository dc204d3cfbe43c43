-- Partners tell which calls overlap any, and which are joined by overlaps.
use Rattle.std.proofs.Common.{◌≡◌, ◌⊎◌, inl, inr, ℕ, zero, suc, ◌+◌, ◌-◌, ◌<◌, ◌≤◌, List, [], ◌∷◌, ◌++◌, All, Bool, true, false, ◌||◌, cond, eqb, eq-eqb, ltb, Option, Some, None, length, get_or, map, filter, take, refl, sym, ap, ◌∙◌, subst, arith, append_assoc, append-nil, true≢false}
use Rattle.std.specs.Prelude.{is_some, IfSome}
use Rattle.std.specs.List.{AllPairs, Contains, flat_map, list_any, range_with_len}
use Rattle.std.proofs.lemmas.Bool.{and_from, and_parts, cases_order, eqb-true, lt-ltb, ltb-false, ltb-true, or_cases, or_left, or_right}
use Rattle.std.proofs.lemmas.List.{get_or-map, get_or-take, get_or_default, length-map, length-take-le}
use Rattle.std.proofs.lemmas.List.Elements.{All-append, All-cons, All-contains, All-contains_itself, All-filter, All-from_get_or, All-get_or, All-head, All-map, All-nil, All-tail, All-weaker, filter_passes}
use Rattle.std.proofs.lemmas.List.Folds.{Any-from_list_any, list_any_at}
use Rattle.std.proofs.lemmas.List.FromFn.{get_or-range_with_len, length-range_with_len}
use Rattle.std.proofs.lemmas.List.Kept.{AllPairs-filter}
use Rattle.call_trees.specs.Below.{below_one, is_number}
use Rattle.call_trees.proofs.GroupLemmas.{group_at, groups_length}
use Rattle.span_requests.proofs.ApartLemmas.{range_rises}
use Rattle.span_requests.proofs.ContainsLemmas.{contains_filter, contains_flat, contains_range}
use Rattle.span_calls.specs.Calls.{AreBefore, StartInOrder}
use Rattle.span_calls.specs.declared.call.Call.{Call}
use Rattle.span_calls.proofs.UnderLemmas.{is_some_number, some_is, some_none}
use Rattle.context_forks.specs.Forks.{callers_of, calls_below, context_pair, context_pairs, is_linked}
use Rattle.context_forks.specs.Partners.{end_of, last_after, last_to_end, later_of, outlasts, overlap, pair_of, pairs_after, pairs_of, partner, partner_of, start_of}
use Rattle.context_forks.proofs.PairLemmas.{contexts_within, lists_are}
use Rattle.context_forks.proofs.PartnerLemmas.{last_to_end_is}
use Rattle.context_forks.proofs.SiblingLemmas.{are_callers, callers_size, numbers_within, siblings_at}
use Rattle.linked_groups.specs.GroupLaws.{AreGroups}
use Rattle.linked_groups.specs.Groups.{AreLinksBelow, groups_of}
use Rattle.linked_groups.proofs.GroupLemmas.{links_join, one_grouping}
use Rattle.call_laws.specs.OverlapLaws.{ForksAreOfOverlaps, GroupsAreOfOverlaps, PartnersTellOverlaps, are_beside, have_one_caller, number_pairs, overlaps}

-- ---- the one that ends last

module _ (calls : List Call) where
  later_ends : (i j : ℕ) → (end_of calls i ≤ end_of calls (later_of calls i j)) × (end_of calls j ≤ end_of calls (later_of calls i j))
  later_ends i j = by (ltb (end_of calls i) (end_of calls j)) refl
    where
      by : (b : Bool) → ltb (end_of calls i) (end_of calls j) ≡ b → (end_of calls i ≤ end_of calls (cond b j i)) × (end_of calls j ≤ end_of calls (cond b j i))
      by true e = (omega (arith, ltb-true (end_of calls i) (end_of calls j) e), omega arith)
      by false e = (omega arith, ltb-false (end_of calls i) (end_of calls j) e)

  after_ends : (i : ℕ) (xs : List ℕ) → (end_of calls i ≤ end_of calls (last_after calls i xs)) × All (λ j. end_of calls j ≤ end_of calls (last_after calls i xs)) xs
  after_ends i [] = (omega arith, All-nil (λ j. end_of calls j ≤ end_of calls i))
  after_ends i (j ∷ xs) =
      let rest = after_ends (later_of calls i j) xs in
      let two = later_ends i j in
      (omega (arith, rest.0, two.0), All-cons (λ k. end_of calls k ≤ end_of calls (last_after calls (later_of calls i j) xs)) j xs (omega (arith, rest.0, two.1)) rest.1)

  -- none of a list ends after the one that ends last
  last_ends : (xs : List ℕ) (p : ℕ) → last_to_end calls xs ≡ Some p → All (λ j. end_of calls j ≤ end_of calls p) xs
  last_ends [] p e = absurd (some_none p (sym e))
  last_ends (i ∷ xs) p e =
      let all = after_ends i xs in
      subst (λ q. All (λ j. end_of calls j ≤ end_of calls q) (i ∷ xs)) (some_is (last_after calls i xs) p e) (All-cons (λ j. end_of calls j ≤ end_of calls (last_after calls i xs)) i xs all.0 all.1)

  last_in : (xs : List ℕ) (p : ℕ) → last_to_end calls xs ≡ Some p → Contains xs p
  last_in xs p e = subst (λ (o : Option ℕ). IfSome o (Contains xs)) e (last_to_end_is calls (Contains xs) xs (All-contains_itself xs))

  last_some : (xs : List ℕ) (j : ℕ) → Contains xs j → (p : ℕ) × (last_to_end calls xs ≡ Some p)
  last_some [] j h = absurd (omega (arith, h.1))
  last_some (i ∷ xs) j h = (last_after calls i xs, refl)

  module _ (grace : ℕ) where
    -- a call that overlaps an earlier one has a partner, which does not end before that one
    partner_some : (earlier : List ℕ) (i j : ℕ) → Contains earlier j → overlap calls grace j i ≡ true → (p : ℕ) × (partner calls grace earlier i ≡ Some p) × (end_of calls j ≤ end_of calls p)
    partner_some earlier i j here h =
        let two = and_parts (outlasts calls grace j i) (outlasts calls grace i j) h in
        let xs = filter (λ k. outlasts calls grace i k) earlier in
        let in_xs : Contains (filter (λ k. outlasts calls grace i k) earlier) j = contains_filter (λ k. outlasts calls grace i k) earlier j here two.1 in
        let some = last_some xs j in_xs in
        let ends : end_of calls j ≤ end_of calls some.0 = All-contains (λ k. end_of calls k ≤ end_of calls some.0) xs j (last_ends xs some.0 some.1) in_xs in
        let own : outlasts calls grace some.0 i ≡ true = lt-ltb grace (end_of calls some.0 - start_of calls i) (omega (arith, ends, ltb-true grace (end_of calls j - start_of calls i) two.0)) in
        (some.0, ap (λ (o : Option ℕ). partner_of calls grace o i) some.1 ∙ ap (λ b. cond b (Some some.0) None) own, ends)

    -- a partner is an earlier call that overlaps
    partner_means : (earlier : List ℕ) (i p : ℕ) → partner calls grace earlier i ≡ Some p → Contains earlier p × (overlap calls grace p i ≡ true)
    partner_means earlier i p h = by (last_to_end calls (filter (λ k. outlasts calls grace i k) earlier)) refl h
      where
        by : (o : Option ℕ) → last_to_end calls (filter (λ k. outlasts calls grace i k) earlier) ≡ o → partner_of calls grace o i ≡ Some p → Contains earlier p × (overlap calls grace p i ≡ true)
        by None e q = absurd (some_none p (sym q))
        by (Some r) e q = at (outlasts calls grace r i) refl q
          where
            in_xs : Contains (filter (λ k. outlasts calls grace i k) earlier) r
            in_xs = last_in (filter (λ k. outlasts calls grace i k) earlier) r e

            at : (b : Bool) → outlasts calls grace r i ≡ b → cond b (Some r) None ≡ Some p → Contains earlier p × (overlap calls grace p i ≡ true)
            at false f g = absurd (some_none p (sym g))
            at true f g = subst (λ s. Contains earlier s × (overlap calls grace s i ≡ true)) (some_is r p g) (
              All-contains (Contains earlier) (filter (λ k. outlasts calls grace i k) earlier) r (All-filter (λ k. outlasts calls grace i k) (Contains earlier) earlier (All-contains_itself earlier)) in_xs,
              and_from (outlasts calls grace r i) (outlasts calls grace i r) f
                  (All-contains (λ k. outlasts calls grace i k ≡ true) (filter (λ k. outlasts calls grace i k) earlier) r (filter_passes (λ k. outlasts calls grace i k) earlier) in_xs),
            )

    partner_tells : (earlier : List ℕ) (i : ℕ) → is_some (partner calls grace earlier i) ≡ list_any (λ j. overlap calls grace j i) earlier
    partner_tells earlier i = by (list_any (λ j. overlap calls grace j i) earlier) refl
      where
        none : (o : Option ℕ) → partner calls grace earlier i ≡ o → list_any (λ j. overlap calls grace j i) earlier ≡ false → is_some o ≡ false
        none None e h = refl
        none (Some p) e h =
            let m = partner_means earlier i p e in
            absurd (true≢false (sym (list_any_at (λ j. overlap calls grace j i) earlier m.0.0 p m.0.1 (ap (λ j. overlap calls grace j i) m.0.2 ∙ m.1)) ∙ h))

        by : (b : Bool) → list_any (λ j. overlap calls grace j i) earlier ≡ b → is_some (partner calls grace earlier i) ≡ list_any (λ j. overlap calls grace j i) earlier
        by true e =
            let any = Any-from_list_any (λ j. overlap calls grace j i) earlier e in
            let some = partner_some earlier i any.1 (any.0, any.2, any.3) any.4 in
            ap is_some some.1 ∙ sym e
        by false e = none (partner calls grace earlier i) refl e ∙ sym e

    -- ---- what holds of partners, and is passed on, holds of all that overlap

    module _ (S : ℕ → ℕ → Type 0) (turned : (a b : ℕ) → S a b → S b a) (passed : (a b c : ℕ) → S a b → S b c → S a c) (xs : List ℕ) (rise : AllPairs (λ i j. start_of calls i ≤ start_of calls j) xs)
        (step : (k p : ℕ) → k < length xs → partner calls grace (take k xs) (get_or xs k 0) ≡ Some p → S p (get_or xs k 0)) where
      beside_both : (i j p : ℕ) → overlap calls grace j i ≡ true → start_of calls j ≤ start_of calls i → start_of calls p ≤ start_of calls i → end_of calls j ≤ end_of calls p → (outlasts calls grace p j ≡ true) × (outlasts calls grace j p ≡ true)
      beside_both i j p h first also ends =
          let long = ltb-true grace (end_of calls j - start_of calls i) (and_parts (outlasts calls grace j i) (outlasts calls grace i j) h).0 in
          (lt-ltb grace (end_of calls p - start_of calls j) (omega (arith, long, first, ends)), lt-ltb grace (end_of calls j - start_of calls p) (omega (arith, long, also)))

      chain : (n k m : ℕ) → k < n → m < k → k < length xs → overlap calls grace (get_or xs m 0) (get_or xs k 0) ≡ true → S (get_or xs m 0) (get_or xs k 0)
      chain zero k m low less lt h = absurd (omega (arith, low))
      chain (suc n) k m low less lt h = by (cases_order means.0.0 m) (λ a b x y z. chain n a b (omega (arith, x, low)) y (omega (arith, x, lt)) z)
        where
          size : length (take k xs) ≡ k
          size = length-take-le k xs (omega (arith, lt))

          some : (p : ℕ) × (partner calls grace (take k xs) (get_or xs k 0) ≡ Some p) × (end_of calls (get_or xs m 0) ≤ end_of calls p)
          some = partner_some (take k xs) (get_or xs k 0) (get_or xs m 0) (m, omega (arith, less, size), get_or-take k xs m (get_or xs m 0) less ∙ get_or_default xs m (get_or xs m 0) 0 (omega (arith, less, lt))) h

          means : Contains (take k xs) some.0 × (overlap calls grace some.0 (get_or xs k 0) ≡ true)
          means = partner_means (take k xs) (get_or xs k 0) some.0 some.1

          q_less : means.0.0 < k
          q_less = omega (arith, means.0.1, size)

          is : get_or xs means.0.0 0 ≡ some.0
          is = sym (get_or-take k xs means.0.0 some.0 q_less ∙ get_or_default xs means.0.0 some.0 0 (omega (arith, q_less, lt))) ∙ means.0.2

          ends : end_of calls (get_or xs m 0) ≤ end_of calls (get_or xs means.0.0 0)
          ends = omega (arith, some.2, ap (end_of calls) is)

          linked : S (get_or xs means.0.0 0) (get_or xs k 0)
          linked = subst (λ r. S r (get_or xs k 0)) (sym is) (step k some.0 lt some.1)

          two : (outlasts calls grace (get_or xs means.0.0 0) (get_or xs m 0) ≡ true) × (outlasts calls grace (get_or xs m 0) (get_or xs means.0.0 0) ≡ true)
          two = beside_both (get_or xs k 0) (get_or xs m 0) (get_or xs means.0.0 0) h (rise m k 0 less lt) (rise means.0.0 k 0 q_less lt) ends

          by : (means.0.0 ≡ m) ⊎ ((means.0.0 < m) ⊎ (m < means.0.0)) → ((a b : ℕ) → a < k → b < a → overlap calls grace (get_or xs b 0) (get_or xs a 0) ≡ true → S (get_or xs b 0) (get_or xs a 0)) → S (get_or xs m 0) (get_or xs k 0)
          by (inl e) rest = subst (λ r. S (get_or xs r 0) (get_or xs k 0)) e linked
          by (inr (inl lower)) rest =
              passed (get_or xs m 0) (get_or xs means.0.0 0) (get_or xs k 0)
              (turned (get_or xs means.0.0 0) (get_or xs m 0) (rest m means.0.0 less lower (and_from (outlasts calls grace (get_or xs means.0.0 0) (get_or xs m 0)) (outlasts calls grace (get_or xs m 0) (get_or xs means.0.0 0)) two.0 two.1))) linked
          by (inr (inr higher)) rest =
              passed (get_or xs m 0) (get_or xs means.0.0 0) (get_or xs k 0)
              (rest means.0.0 m q_less higher (and_from (outlasts calls grace (get_or xs m 0) (get_or xs means.0.0 0)) (outlasts calls grace (get_or xs means.0.0 0) (get_or xs m 0)) two.1 two.0)) linked

pub partners_tell : PartnersTellOverlaps
partners_tell grace calls earlier i = partner_tells calls grace earlier i

-- ---- pairs by their places

module _ {X : Type 0} (T : X → Type 0) where
  all_left : (xs ys : List X) → All T (xs ++ ys) → All T xs
  all_left [] ys h = All-nil T
  all_left (x ∷ xs) ys h = All-cons T x xs (All-head T x (xs ++ ys) h) (all_left xs ys (All-tail T x (xs ++ ys) h))

  all_right : (xs ys : List X) → All T (xs ++ ys) → All T ys
  all_right [] ys h = h
  all_right (x ∷ xs) ys h = all_right xs ys (All-tail T x (xs ++ ys) h)

  all_unmap : {Y : Type 0} (f : Y → X) (ys : List Y) → All T (map f ys) → All (λ y. T (f y)) ys
  all_unmap f [] h = All-nil (λ y. T (f y))
  all_unmap f (y ∷ ys) h = All-cons (λ y. T (f y)) y ys (All-head T (f y) (map f ys) h) (all_unmap f ys (All-tail T (f y) (map f ys) h))

  all_flat : {Y : Type 0} (f : Y → List X) (ys : List Y) → All (λ y. All T (f y)) ys → All T (flat_map f ys)
  all_flat f [] h = All-nil T
  all_flat f (y ∷ ys) h = All-append T (f y) (flat_map f ys) (All-head (λ y. All T (f y)) y ys h) (all_flat f ys (All-tail (λ y. All T (f y)) y ys h))

  all_filter : (test : X → Bool) (xs : List X) → All (λ x. test x ≡ true → T x) xs → All T (filter test xs)
  all_filter test [] h = All-nil T
  all_filter test (x ∷ xs) h = by (test x) refl (all_filter test xs (All-tail (λ x. test x ≡ true → T x) x xs h))
    where
      by : (b : Bool) → test x ≡ b → All T (filter test xs) → All T (cond b (x ∷ filter test xs) (filter test xs))
      by true e rest = All-cons T x (filter test xs) (All-head (λ x. test x ≡ true → T x) x xs h e) rest
      by false e rest = rest

module _ (calls : List Call) (grace : ℕ) (T : (ℕ × ℕ) → Type 0) where
  after_at : (earlier later : List ℕ) → All T (pairs_after calls grace earlier later) → (k p : ℕ) → k < length later → partner calls grace (earlier ++ take k later) (get_or later k 0) ≡ Some p → T (p, get_or later k 0)
  after_at earlier [] h k p lt e = absurd (omega (arith, lt))
  after_at earlier (i ∷ later) h zero p lt e =
      let o = ap (λ (xs : List ℕ). partner calls grace xs i) (sym (append-nil earlier)) ∙ e in
      All-head T (p, i) [] (subst (λ (o : Option ℕ). All T (pair_of o i)) o (all_left T (pair_of (partner calls grace earlier i) i) (pairs_after calls grace (earlier ++ i ∷ []) later) h))
  after_at earlier (i ∷ later) h (suc k) p lt e =
      after_at (earlier ++ i ∷ []) later (all_right T (pair_of (partner calls grace earlier i) i) (pairs_after calls grace (earlier ++ i ∷ []) later) h) k p (omega (arith, lt))
      (ap (λ (xs : List ℕ). partner calls grace xs (get_or later k 0)) (append_assoc earlier (i ∷ []) (take k later)) ∙ e)

  after_from : (earlier later : List ℕ) → ((k p : ℕ) → k < length later → partner calls grace (earlier ++ take k later) (get_or later k 0) ≡ Some p → T (p, get_or later k 0)) → All T (pairs_after calls grace earlier later)
  after_from earlier [] f = All-nil T
  after_from earlier (i ∷ later) f =
      All-append T (pair_of (partner calls grace earlier i) i) (pairs_after calls grace (earlier ++ i ∷ []) later) (own (partner calls grace earlier i) refl)
      (after_from (earlier ++ i ∷ []) later (λ k p lt e. f (suc k) p (omega (arith, lt)) (ap (λ (xs : List ℕ). partner calls grace xs (get_or later k 0)) (sym (append_assoc earlier (i ∷ []) (take k later))) ∙ e)))
    where
      own : (o : Option ℕ) → partner calls grace earlier i ≡ o → All T (pair_of o i)
      own None e = All-nil T
      own (Some p) e = All-cons T (p, i) [] (f 0 p (omega arith) (ap (λ (xs : List ℕ). partner calls grace xs i) (append-nil earlier) ∙ e)) (All-nil T)

  lists_at : (below : List (List ℕ)) → All T (pairs_of calls grace below) → (k : ℕ) → k < length below → All T (pairs_after calls grace [] (get_or below k []))
  lists_at [] h k lt = absurd (omega (arith, lt))
  lists_at (xs ∷ below) h zero lt = all_left T (pairs_after calls grace [] xs) (pairs_of calls grace below) h
  lists_at (xs ∷ below) h (suc k) lt = lists_at below (all_right T (pairs_after calls grace [] xs) (pairs_of calls grace below) h) k (omega (arith, lt))

  -- overlaps by their numbers
  overlaps_from : ((i j : ℕ) → j < i → i < length calls → are_beside grace calls (j, i) ≡ true → T (j, i)) → All T (overlaps grace calls)
  overlaps_from f = all_filter T (are_beside grace calls) (number_pairs (length calls))
      (all_flat (λ (p : ℕ × ℕ). are_beside grace calls p ≡ true → T p) (λ i. map (λ j. (j, i)) (range_with_len 0 i)) (range_with_len 0 (length calls))
      (All-weaker (λ i. i < length calls) (λ i. All (λ (p : ℕ × ℕ). are_beside grace calls p ≡ true → T p) (map (λ j. (j, i)) (range_with_len 0 i))) (λ i lt.
      All-map (λ (p : ℕ × ℕ). are_beside grace calls p ≡ true → T p) (λ j. (j, i)) (range_with_len 0 i) (All-weaker (λ j. j < i) (λ j. are_beside grace calls (j, i) ≡ true → T (j, i)) (λ j less. f i j less lt) (range_with_len 0 i) (numbers_within i)))
      (range_with_len 0 (length calls)) (numbers_within (length calls))))

  pub overlaps_at : All T (overlaps grace calls) → (i j : ℕ) → j < i → i < length calls → are_beside grace calls (j, i) ≡ true → T (j, i)
  overlaps_at h i j less lt own = All-contains T (overlaps grace calls) (j, i) h
      (contains_filter (are_beside grace calls) (number_pairs (length calls)) (j, i) (contains_flat (λ i. map (λ j. (j, i)) (range_with_len 0 i)) (range_with_len 0 (length calls)) i (j, i) (contains_range (length calls) i lt) here) own)
    where
      here : Contains {X = ℕ × ℕ} (map (λ k. (k, i)) (range_with_len 0 i)) (j, i)
      here =
          let f : ℕ → ℕ × ℕ = λ k. (k, i) in
          let d : ℕ × ℕ = (j, i) in (
            j,
            omega (arith, less, length-map (range_with_len 0 i) f, length-range_with_len 0 i),
            get_or-map f (range_with_len 0 i) j 0 d (omega (arith, less, length-range_with_len 0 i)) ∙ ap f (get_or-range_with_len 0 i j 0 less ∙ (let e : 0 + j ≡ j = omega arith in e)),
          )

-- ---- partners against all overlaps

module _ (grace : ℕ) (calls : List Call) (before : AreBefore calls) (rise : StartInOrder calls) where
  below_size : length (calls_below calls) ≡ length calls
  below_size = groups_length (callers_of calls) (range_with_len 0 (length calls)) ∙ callers_size calls

  below_is : (c : ℕ) → c < length calls → get_or (calls_below calls) c [] ≡ below_one (callers_of calls) (range_with_len 0 (length calls)) c
  below_is c lt = group_at (callers_of calls) (range_with_len 0 (length calls)) c [] (omega (arith, lt, callers_size calls))

  below_rises : (c : ℕ) → AllPairs (λ i j. i < j) (below_one (callers_of calls) (range_with_len 0 (length calls)) c)
  below_rises c = AllPairs-filter (λ i j. i < j) (λ j. is_number c (get_or (callers_of calls) j None)) (range_with_len 0 (length calls)) (range_rises (length calls))

  below_starts : (c : ℕ) → c < length calls → AllPairs (λ i j. start_of calls i ≤ start_of calls j) (below_one (callers_of calls) (range_with_len 0 (length calls)) c)
  below_starts c lt = subst (AllPairs (λ i j. start_of calls i ≤ start_of calls j)) (below_is c lt) (siblings_at calls rise (calls_below calls) c [] refl (omega (arith, lt, below_size))).rise

  -- the caller of two calls
  one_caller : (j i : ℕ) → are_beside grace calls (j, i) ≡ true → (c : ℕ) × (get_or (callers_of calls) j None ≡ Some c) × (is_number c (get_or (callers_of calls) i None) ≡ true)
  one_caller j i h = by (get_or (callers_of calls) j None) refl (and_parts (have_one_caller (get_or (callers_of calls) j None) (get_or (callers_of calls) i None)) (overlap calls grace j i) h).0
    where
      by : (o : Option ℕ) → get_or (callers_of calls) j None ≡ o → have_one_caller o (get_or (callers_of calls) i None) ≡ true → (c : ℕ) × (get_or (callers_of calls) j None ≡ Some c) × (is_number c (get_or (callers_of calls) i None) ≡ true)
      by None e q = absurd (true≢false (sym q))
      by (Some c) e q = (c, e, q)

  pub of_overlaps : (S : ℕ → ℕ → Type 0) → ((a b : ℕ) → S a b → S b a) → ((a b c : ℕ) → S a b → S b c → S a c) → All (λ (p : ℕ × ℕ). S p.0 p.1) (pairs_of calls grace (calls_below calls)) → All (λ (p : ℕ × ℕ). S p.0 p.1) (overlaps grace calls)
  of_overlaps S turned passed h = overlaps_from calls grace (λ (p : ℕ × ℕ). S p.0 p.1) at
    where
      at : (i j : ℕ) → j < i → i < length calls → are_beside grace calls (j, i) ≡ true → S j i
      at i j less lt own =
          let one = one_caller j i own in
          let c = one.0 in
          let low : c < length calls = omega (arith, are_callers calls before j c one.1, callers_size calls) in
          let xs = below_one (callers_of calls) (range_with_len 0 (length calls)) c in
          let j_in : Contains (below_one (callers_of calls) (range_with_len 0 (length calls)) c) j = contains_filter (λ k. is_number c (get_or (callers_of calls) k None)) (range_with_len 0 (length calls)) j (contains_range (length calls) j (omega (arith, less, lt))) (ap (is_number c) one.1 ∙ eq-eqb c c refl) in
          let i_in : Contains (below_one (callers_of calls) (range_with_len 0 (length calls)) c) i = contains_filter (λ k. is_number c (get_or (callers_of calls) k None)) (range_with_len 0 (length calls)) i (contains_range (length calls) i lt) one.2 in
          let m = j_in.0 in
          let k = i_in.0 in
          let m_is : get_or xs m 0 ≡ j = get_or_default xs m 0 j j_in.1 ∙ j_in.2 in
          let k_is : get_or xs k 0 ≡ i = get_or_default xs k 0 i i_in.1 ∙ i_in.2 in
          let earlier : m < k = first c m k j i j_in.1 m_is k_is less (cases_order m k) in
          let step = after_at calls grace (λ (p : ℕ × ℕ). S p.0 p.1) [] xs (subst (λ (ys : List ℕ). All (λ (p : ℕ × ℕ). S p.0 p.1) (pairs_after calls grace [] ys)) (below_is c low) (lists_at calls grace (λ (p : ℕ × ℕ). S p.0 p.1) (calls_below calls) h c (omega (arith, low, below_size)))) in
          let beside = (and_parts (have_one_caller (get_or (callers_of calls) j None) (get_or (callers_of calls) i None)) (overlap calls grace j i) own).1 in
          let linked = chain calls grace S turned passed xs (below_starts c low) step (k + 1) k m (omega arith) earlier i_in.1 (ap (λ z. overlap calls grace z (get_or xs k 0)) m_is ∙ ap (overlap calls grace j) k_is ∙ beside) in
          subst (λ z. S z i) m_is (subst (S (get_or xs m 0)) k_is linked)
        where
          first : (c m k j i : ℕ) → m < length (below_one (callers_of calls) (range_with_len 0 (length calls)) c) → get_or (below_one (callers_of calls) (range_with_len 0 (length calls)) c) m 0 ≡ j → get_or (below_one (callers_of calls) (range_with_len 0 (length calls)) c) k 0 ≡ i
              → j < i → (m ≡ k) ⊎ ((m < k) ⊎ (k < m)) → m < k
          first c m k j i low one two less (inl e) = absurd (omega (arith, less, one, two, ap (λ n. get_or (below_one (callers_of calls) (range_with_len 0 (length calls)) c) n 0) e))
          first c m k j i low one two less (inr (inl lt)) = lt
          first c m k j i low one two less (inr (inr gt)) = absurd (omega (arith, less, one, two, below_rises c k m 0 gt low))

  pub of_partners : (T : (ℕ × ℕ) → Type 0) → All T (overlaps grace calls) → All T (pairs_of calls grace (calls_below calls))
  of_partners T h = lists_are calls grace T (calls_below calls) (All-from_get_or (λ (xs : List ℕ). All T (pairs_after calls grace [] xs)) (calls_below calls) [] (λ c less.
      let low : c < length calls = omega (arith, less, below_size) in
      subst (λ (xs : List ℕ). All T (pairs_after calls grace [] xs)) (sym (below_is c low)) (after_from calls grace T [] (below_one (callers_of calls) (range_with_len 0 (length calls)) c) (at c))))
    where
      at : (c k p : ℕ) → k < length (below_one (callers_of calls) (range_with_len 0 (length calls)) c) → partner calls grace (take k (below_one (callers_of calls) (range_with_len 0 (length calls)) c)) (get_or (below_one (callers_of calls) (range_with_len 0 (length calls)) c) k 0) ≡ Some p
          → T (p, get_or (below_one (callers_of calls) (range_with_len 0 (length calls)) c) k 0)
      at c k p lt e =
          let xs = below_one (callers_of calls) (range_with_len 0 (length calls)) c in
          let m = partner_means calls grace (take k xs) (get_or xs k 0) p e in
          let q = m.0.0 in
          let less : q < k = omega (arith, m.0.1, length-take-le k xs (omega (arith, lt))) in
          let is : get_or xs q 0 ≡ p = sym (get_or-take k xs q p less ∙ get_or_default xs q p 0 (omega (arith, less, lt))) ∙ m.0.2 in
          let within = All-filter (λ j. is_number c (get_or (callers_of calls) j None)) (λ i. i < length calls) (range_with_len 0 (length calls)) (numbers_within (length calls)) in
          let passes = filter_passes (λ j. is_number c (get_or (callers_of calls) j None)) (range_with_len 0 (length calls)) in
          let p_own : get_or (callers_of calls) p None ≡ Some c = ap (λ n. get_or (callers_of calls) n None) (sym is) ∙ is_some_number c (get_or (callers_of calls) (get_or xs q 0) None) (All-get_or (λ j. is_number c (get_or (callers_of calls) j None) ≡ true) xs q 0 (omega (arith, less, lt)) passes) in
          let i_own : is_number c (get_or (callers_of calls) (get_or xs k 0) None) ≡ true = All-get_or (λ j. is_number c (get_or (callers_of calls) j None) ≡ true) xs k 0 lt passes in
          let rises : get_or xs q 0 < get_or xs k 0 = below_rises c q k 0 less lt in
          overlaps_at calls grace T h (get_or xs k 0) p (omega (arith, rises, is)) (All-get_or (λ i. i < length calls) xs k 0 lt within)
          (and_from (have_one_caller (get_or (callers_of calls) p None) (get_or (callers_of calls) (get_or xs k 0) None)) (overlap calls grace p (get_or xs k 0)) (ap (λ (o : Option ℕ). have_one_caller o (get_or (callers_of calls) (get_or xs k 0) None)) p_own ∙ i_own) m.1)

-- ---- contexts

module _ (numbers : List ℕ) (pairs : List (ℕ × ℕ)) where
  linked_self : All (λ (p : ℕ × ℕ). (is_linked (map (context_pair numbers) pairs) (get_or numbers p.0 0) ≡ true) × (is_linked (map (context_pair numbers) pairs) (get_or numbers p.1 0) ≡ true)) pairs
  linked_self = All-from_get_or (λ (p : ℕ × ℕ). (is_linked (map (context_pair numbers) pairs) (get_or numbers p.0 0) ≡ true) × (is_linked (map (context_pair numbers) pairs) (get_or numbers p.1 0) ≡ true)) pairs (0, 0) (λ k lt.
      let p = get_or pairs k (0, 0) in
      let at : get_or (map (context_pair numbers) pairs) k (0, 0) ≡ context_pair numbers (get_or pairs k (0, 0)) = get_or-map (context_pair numbers) pairs k (0, 0) (0, 0) lt in
      let less : k < length (map (context_pair numbers) pairs) = omega (arith, lt, length-map pairs (context_pair numbers)) in
      let a = get_or numbers p.0 0 in
      let b = get_or numbers p.1 0 in (
        list_any_at (λ (l : ℕ × ℕ). eqb l.0 a || eqb l.1 a) (map (context_pair numbers) pairs) k (0, 0) less (ap (λ (l : ℕ × ℕ). eqb l.0 a || eqb l.1 a) at ∙ or_left (eqb a a) (eqb b a) (eq-eqb a a refl)),
        list_any_at (λ (l : ℕ × ℕ). eqb l.0 b || eqb l.1 b) (map (context_pair numbers) pairs) k (0, 0) less (ap (λ (l : ℕ × ℕ). eqb l.0 b || eqb l.1 b) at ∙ or_right (eqb a b) (eqb b b) (eq-eqb b b refl)),
      ))

  linked_from : (Q : ℕ → Type 0) → All (λ (p : ℕ × ℕ). Q (get_or numbers p.0 0) × Q (get_or numbers p.1 0)) pairs → (x : ℕ) → is_linked (map (context_pair numbers) pairs) x ≡ true → Q x
  linked_from Q h x own =
      let any = Any-from_list_any (λ (l : ℕ × ℕ). eqb l.0 x || eqb l.1 x) (map (context_pair numbers) pairs) own in
      let both = All-contains (λ (l : ℕ × ℕ). Q l.0 × Q l.1) (map (context_pair numbers) pairs) any.1 (All-map (λ (l : ℕ × ℕ). Q l.0 × Q l.1) (context_pair numbers) pairs h) (any.0, any.2, any.3) in
      by any.1 both (or_cases (eqb any.1.0 x) (eqb any.1.1 x) any.4)
    where
      by : (l : ℕ × ℕ) → Q l.0 × Q l.1 → (eqb l.0 x ≡ true) ⊎ (eqb l.1 x ≡ true) → Q x
      by l both (inl e) = subst Q (eqb-true l.0 x e) both.0
      by l both (inr e) = subst Q (eqb-true l.1 x e) both.1

pub same_bool : (a b : Bool) → (a ≡ true → b ≡ true) → (b ≡ true → a ≡ true) → a ≡ b
same_bool true b f g = sym (f refl)
same_bool false true f g = g refl
same_bool false false f g = refl

pub forks_of_overlaps : ForksAreOfOverlaps
forks_of_overlaps grace calls numbers before rise x =
    let pairs = pairs_of calls grace (calls_below calls) in
    let all = overlaps grace calls in
    let linked = λ (y : ℕ). is_linked (map (context_pair numbers) (pairs_of calls grace (calls_below calls))) y ≡ true in
    let beside = λ (y : ℕ). is_linked (map (context_pair numbers) (overlaps grace calls)) y ≡ true in
    same_bool (is_linked (context_pairs grace calls numbers) x) (is_linked (map (context_pair numbers) (overlaps grace calls)) x)
    (linked_from numbers pairs beside (of_partners grace calls before rise (λ (p : ℕ × ℕ). beside (get_or numbers p.0 0) × beside (get_or numbers p.1 0)) (linked_self numbers all)) x)
    (linked_from numbers all linked (of_overlaps grace calls before rise (λ a b. linked (get_or numbers a 0) × linked (get_or numbers b 0)) (λ a b h. (h.1, h.0)) (λ a b c h k. (h.0, k.1)) (linked_self numbers pairs)) x)

pub groups_of_overlaps : GroupsAreOfOverlaps
groups_of_overlaps grace calls numbers count before rise same within = one_grouping count (map (context_pair numbers) (overlaps grace calls)) (groups_of count (context_pairs grace calls numbers)) (groups_of count (map (context_pair numbers) (overlaps grace calls))) own
    (links_join count (map (context_pair numbers) (overlaps grace calls)) all_below)
  where
    by_partners : AreGroups count (context_pairs grace calls numbers) (groups_of count (context_pairs grace calls numbers))
    by_partners = links_join count (context_pairs grace calls numbers) (contexts_within calls grace numbers count rise same within)

    all_below : AreLinksBelow count (map (context_pair numbers) (overlaps grace calls))
    all_below = All-map (λ (l : ℕ × ℕ). (l.0 < count) × (l.1 < count)) (context_pair numbers) (overlaps grace calls) (overlaps_from calls grace (λ (p : ℕ × ℕ). (get_or numbers p.0 0 < count) × (get_or numbers p.1 0 < count)) (λ i j less lt own. (
      All-get_or (λ n. n < count) numbers j 0 (omega (arith, less, lt, same)) within,
      All-get_or (λ n. n < count) numbers i 0 (omega (arith, lt, same)) within,
    )))

    own : AreGroups count (map (context_pair numbers) (overlaps grace calls)) (groups_of count (context_pairs grace calls numbers))
    own = record {
      size = by_partners.size;
      low = by_partners.low;
      named = by_partners.named;
      linked = All-map (λ (l : ℕ × ℕ). get_or (groups_of count (context_pairs grace calls numbers)) l.0 0 ≡ get_or (groups_of count (context_pairs grace calls numbers)) l.1 0) (context_pair numbers) (overlaps grace calls)
          (of_overlaps grace calls before rise (λ a b. get_or (groups_of count (context_pairs grace calls numbers)) (get_or numbers a 0) 0 ≡ get_or (groups_of count (context_pairs grace calls numbers)) (get_or numbers b 0) 0)
          (λ a b e. sym e) (λ a b c d e. d ∙ e)
          (all_unmap (λ (l : ℕ × ℕ). get_or (groups_of count (context_pairs grace calls numbers)) l.0 0 ≡ get_or (groups_of count (context_pairs grace calls numbers)) l.1 0) (context_pair numbers) (pairs_of calls grace (calls_below calls)) by_partners.linked));
      alone = λ f all. by_partners.alone f (All-map (λ (l : ℕ × ℕ). f l.0 ≡ f l.1) (context_pair numbers) (pairs_of calls grace (calls_below calls))
          (of_partners grace calls before rise (λ (p : ℕ × ℕ). f (get_or numbers p.0 0) ≡ f (get_or numbers p.1 0)) (all_unmap (λ (l : ℕ × ℕ). f l.0 ≡ f l.1) (context_pair numbers) (overlaps grace calls) all)));
    }
