-- The calls of a request stand together.
use Rattle.std.proofs.Common.{◌≡◌, ◌≢◌, ◌⊎◌, inl, inr, ℕ, zero, suc, ◌+◌, ◌<◌, List, [], ◌∷◌, ◌++◌, All, true, eqb, eq-eqb, Option, Some, None, length, get_or, filter, take, slice_get, refl, sym, ap, ◌∙◌, subst, arith, append_assoc, append-nil, true≢false}
use Rattle.std.specs.Prelude.{IsSome, is_none, not, position}
use Rattle.std.specs.List.{AllPairs, Contains, flat_map, list_any}
use Rattle.std.specs.Option.{option_and_then}
use Rattle.std.proofs.lemmas.Bool.{cases_order}
use Rattle.std.proofs.lemmas.List.{get_or-map, get_or_default}
use Rattle.std.proofs.lemmas.List.Elements.{All-get_or, All-head, All-tail, All-weaker, Contains-append_left, Contains-push}
use Rattle.std.proofs.lemmas.List.Folds.{list_any_at}
use Rattle.std.proofs.lemmas.Option.{get_or_from_slice_get, slice_get_within}
use Rattle.call_trees.specs.Below.{below_all}
use Rattle.call_trees.specs.Walks.{walk_from, walk_through}
use Rattle.call_trees.proofs.TableLemmas.{get_or-table}
use Rattle.span_types.specs.declared.span.Span.{Span}
use Rattle.span_requests.specs.CallerNumbers.{HaveLastCallers, number_above}
use Rattle.span_requests.proofs.CallerLemmas.{is_none-position}
use Rattle.span_requests.proofs.CircleLemmas.{above_next}
use Rattle.span_calls.specs.Calls.{is_asked, position_at}
use Rattle.span_calls.specs.Seen.{span_at}
use Rattle.span_calls.specs.declared.call.Call.{Call}
use Rattle.span_calls.proofs.PairLemmas.{ByPairs, all_flat, flat_pairs, pairs_all, pairs_listed}
use Rattle.span_calls.proofs.RiseLemmas.{caller_is, within}
use Rattle.span_calls.proofs.UnderLemmas.{IsUnder, above_caller, all_under, called_at, one_above, some_is, some_none}
use Rattle.call_laws.specs.CallLaws.{AreCallsOf, CallsAreTogether, EntriesAreCalledByNone, IsAskedFor}
use Rattle.call_laws.proofs.OnceLemmas.{are_asked_for, asked_apart, asked_first}

-- ---- callers stand before what they call

module _ (callers : List (Option ℕ)) where
  -- the caller of each stands before it, behind these
  abbrev pub AllCalled : List ℕ → List ℕ → Type 0
  AllCalled before [] = Unit {0}
  AllCalled before (x ∷ xs) = ((p : ℕ) → get_or callers x None ≡ Some p → Contains before p) × AllCalled (before ++ x ∷ []) xs

  called_append : (before xs ys : List ℕ) → AllCalled before xs → AllCalled (before ++ xs) ys → AllCalled before (xs ++ ys)
  called_append before [] ys h k = subst (λ (bs : List ℕ). AllCalled bs ys) (append-nil before) k
  called_append before (x ∷ xs) ys h k = (h.0, called_append (before ++ x ∷ []) xs ys h.1 (subst (λ (bs : List ℕ). AllCalled bs ys) (sym (append_assoc before (x ∷ []) xs)) k))

  called_flat : (f : ℕ → List ℕ) → ((y : ℕ) (before : List ℕ) → ((p : ℕ) → get_or callers y None ≡ Some p → Contains before p) → AllCalled before (f y))
      → (ys before : List ℕ) → All (λ y. (p : ℕ) → get_or callers y None ≡ Some p → Contains before p) ys → AllCalled before (flat_map f ys)
  called_flat f own [] before h = tt
  called_flat f own (y ∷ ys) before h =
      called_append before (f y) (flat_map f ys) (own y before (All-head (λ y. (p : ℕ) → get_or callers y None ≡ Some p → Contains before p) y ys h))
      (called_flat f own ys (before ++ f y) (All-weaker (λ y. (p : ℕ) → get_or callers y None ≡ Some p → Contains before p) (λ z. (p : ℕ) → get_or callers z None ≡ Some p → Contains (before ++ f y) p) (λ z k p e. Contains-append_left before (f y) p (k p e)) ys
      (All-tail (λ y. (p : ℕ) → get_or callers y None ≡ Some p → Contains before p) y ys h)))

  called_place : (xs before : List ℕ) (j p : ℕ) → AllCalled before xs → j < length xs → get_or callers (get_or xs j 0) None ≡ Some p → Contains (before ++ take j xs) p
  called_place [] before j p h lt e = absurd (omega (arith, lt))
  called_place (x ∷ xs) before zero p h lt e = Contains-append_left before [] p (h.0 p e)
  called_place (x ∷ xs) before (suc j) p h lt e = subst (λ (bs : List ℕ). Contains bs p) (append_assoc before (x ∷ []) (take j xs)) (called_place xs (before ++ x ∷ []) j p h.1 (omega (arith, lt)) e)

  module _ (order : List ℕ) where
    walk_called : (n x : ℕ) (before : List ℕ) → ((p : ℕ) → get_or callers x None ≡ Some p → Contains before p) → AllCalled before (walk_from (below_all callers order) n x)
    walk_called zero x before h = tt
    walk_called (suc n) x before h = (
      h,
      called_flat (walk_from (below_all callers order) n) (λ y bs k. walk_called n y bs k) (get_or (below_all callers order) x []) (before ++ x ∷ [])
          (All-weaker (λ y. get_or callers y None ≡ Some x) (λ y. (p : ℕ) → get_or callers y None ≡ Some p → Contains (before ++ x ∷ []) p)
          (λ y e p q. subst (λ z. Contains (before ++ x ∷ []) z) (some_is x p (sym e ∙ q)) (Contains-push before x)) (get_or (below_all callers order) x []) (called_at callers order x)),
    )

    pub walks_called : (roots : List ℕ) → All (λ e. get_or callers e None ≡ None) roots → AllCalled [] (walk_through (below_all callers order) roots)
    walks_called roots first = called_flat (walk_from (below_all callers order) (length (below_all callers order))) (λ y bs k. walk_called (length (below_all callers order)) y bs k) roots []
        (All-weaker (λ y. get_or callers y None ≡ None) (λ y. (p : ℕ) → get_or callers y None ≡ Some p → Contains [] p) (λ y e p q. absurd (some_none p (sym q ∙ e))) roots first)

-- ---- what is below one root stands before what is below the next one

module _ (callers : List (Option ℕ)) (last : HaveLastCallers callers) (order roots : List ℕ) (first : All (λ e. get_or callers e None ≡ None) roots) (apart : AllPairs (λ d e. d ≢ e) roots) where
  -- one root stands before another one
  abbrev pub Before : ℕ → ℕ → Type 0
  Before r s = (i : ℕ) × (j : ℕ) × (i < j) × (j < length roots) × (get_or roots i 0 ≡ r) × (get_or roots j 0 ≡ s)

  one_place : (i j : ℕ) → i < length roots → j < length roots → get_or roots i 0 ≡ get_or roots j 0 → i ≡ j
  one_place i j low less e = by (cases_order i j)
    where
      by : (i ≡ j) ⊎ ((i < j) ⊎ (j < i)) → i ≡ j
      by (inl q) = q
      by (inr (inl lt)) = absurd (apart i j 0 lt less e)
      by (inr (inr gt)) = absurd (apart j i 0 gt low (sym e))

  pub not_both : (r s : ℕ) → Before r s → Before s r → ⊥
  not_both r s h k =
      let a = one_place h.0 k.1 (omega (arith, h.2, h.3)) k.3 (h.4 ∙ sym k.5) in
      let b = one_place h.1 k.0 h.3 (omega (arith, k.2, k.3)) (h.5 ∙ sym k.4) in
      omega (arith, h.2, k.2, a, b)

  pub not_itself : (r : ℕ) → Before r r → ⊥
  not_itself r h = omega (arith, h.2, one_place h.0 h.1 (omega (arith, h.2, h.3)) h.3 (h.4 ∙ sym h.5))

  roots_before : AllPairs Before roots
  roots_before i j d lt less = (i, j, lt, less, get_or_default roots i 0 d (omega (arith, lt, less)), get_or_default roots j 0 d less)

  -- of two in this order, the second one is below the same root and no root, or below a later one
  abbrev pub InTurn : ℕ → ℕ → Type 0
  InTurn a b = (r s : ℕ) → IsUnder callers r a → get_or callers r None ≡ None → IsUnder callers s b → get_or callers s None ≡ None → ((r ≡ s) × (get_or callers b None ≢ None)) ⊎ Before r s

  by_pairs : (P Q : ℕ → Type 0) (R : ℕ → ℕ → Type 0) → ((a b : ℕ) → P a → Q b → R a b) → (xs : List ℕ) → All P xs → All Q xs → ByPairs R xs
  by_pairs P Q R f [] h k = tt
  by_pairs P Q R f (x ∷ xs) h k = (All-weaker Q (R x) (λ b q. f x b (All-head P x xs h) q) xs (All-tail Q x xs k), by_pairs P Q R f xs (All-tail P x xs h) (All-tail Q x xs k))

  -- below a root, and no root itself
  abbrev IsBelow : ℕ → ℕ → Type 0
  IsBelow r d = IsUnder callers r d × (get_or callers d None ≢ None)

  all_below : (n r : ℕ) → get_or callers r None ≡ None → All (IsBelow r) (flat_map (walk_from (below_all callers order) n) (get_or (below_all callers order) r []))
  all_below n r own = all_flat (IsBelow r) (walk_from (below_all callers order) n) (get_or (below_all callers order) r [])
      (All-weaker (λ y. get_or callers y None ≡ Some r) (λ y. All (IsBelow r) (walk_from (below_all callers order) n y))
      (λ y e. All-weaker (IsUnder callers y) (IsBelow r) (λ d u. ((u.0 + 1, above_next callers u.0 d y r u.1 e), strict y d e u.0 u.1)) (walk_from (below_all callers order) n y) (all_under callers order n y))
      (get_or (below_all callers order) r []) (called_at callers order r))
    where
      strict : (y d : ℕ) → get_or callers y None ≡ Some r → (k : ℕ) → number_above callers k d ≡ Some y → get_or callers d None ≢ None
      strict y d e zero up none = some_none r (sym e ∙ ap (λ z. get_or callers z None) (sym (some_is d y up)) ∙ none)
      strict y d e (suc k) up none = some_none y (sym up ∙ ap (option_and_then (number_above callers k)) none)

  below_turn : (r a b : ℕ) → get_or callers r None ≡ None → IsUnder callers r a → IsBelow r b → InTurn a b
  below_turn r a b own u v p q up none also still =
      let one : p ≡ r = one_above callers last up.0 u.0 a p r up.1 u.1 (none ∙ sym own) in
      let two : q ≡ r = one_above callers last also.0 v.0.0 b q r also.1 v.0.1 (still ∙ sym own) in
      inl (one ∙ sym two, v.1)

  walk_turns : (n r : ℕ) → get_or callers r None ≡ None → ByPairs InTurn (walk_from (below_all callers order) n r)
  walk_turns zero r own = tt
  walk_turns (suc n) r own = (
    All-weaker (IsBelow r) (InTurn r) (λ b v. below_turn r r b own (0, refl) v) (flat_map (walk_from (below_all callers order) n) (get_or (below_all callers order) r [])) (all_below n r own),
    by_pairs (IsUnder callers r) (IsBelow r) InTurn (λ a b u v. below_turn r a b own u v) (flat_map (walk_from (below_all callers order) n) (get_or (below_all callers order) r []))
        (All-weaker (IsBelow r) (IsUnder callers r) (λ d v. v.0) (flat_map (walk_from (below_all callers order) n) (get_or (below_all callers order) r [])) (all_below n r own)) (all_below n r own),
  )

  pub walks_turn : AllPairs InTurn (walk_through (below_all callers order) roots)
  walks_turn = pairs_all InTurn (walk_through (below_all callers order) roots)
      (flat_pairs InTurn Before (λ y. get_or callers y None ≡ None) (walk_from (below_all callers order) (length (below_all callers order))) (λ y e. walk_turns (length (below_all callers order)) y e) across roots first (pairs_listed Before roots roots_before))
    where
      across : (y z : ℕ) → get_or callers y None ≡ None → get_or callers z None ≡ None → Before y z → All (λ d. All (InTurn d) (walk_from (below_all callers order) (length (below_all callers order)) z)) (walk_from (below_all callers order) (length (below_all callers order)) y)
      across y z one two turn = All-weaker (IsUnder callers y) (λ d. All (InTurn d) (walk_from (below_all callers order) (length (below_all callers order)) z))
          (λ d u. All-weaker (IsUnder callers z) (InTurn d) (λ e v r s up none also still.
          let r_is : y ≡ r = one_above callers last u.0 up.0 d y r u.1 up.1 (one ∙ sym none) in
          let s_is : z ≡ s = one_above callers last v.0 also.0 e z s v.1 also.1 (two ∙ sym still) in
          inr (subst (λ a. Before a s) r_is (subst (Before y) s_is turn))) (walk_from (below_all callers order) (length (below_all callers order)) z) (all_under callers order (length (below_all callers order)) z))
          (walk_from (below_all callers order) (length (below_all callers order)) y) (all_under callers order (length (below_all callers order)) y)

-- ---- the laws

module _ (spans : List Span) (callers : List (Option ℕ)) (asked : Option (List ℕ)) (entries : List ℕ) (calls : List Call) (h : AreCallsOf spans callers asked entries calls) where
  -- a call without a caller is an entry
  pub call_of_none : (i : ℕ) (a : Call) → slice_get calls i ≡ Some a → a.caller ≡ None → get_or callers (get_or h.are.numbers i 0) None ≡ None
  call_of_none i a there none = by (get_or callers (get_or h.are.numbers i 0) None) refl
    where
      low : i < length h.are.numbers
      low = within spans callers asked entries calls h.ends h.roots h.are i a there

      own : None ≡ position_at callers h.are.numbers i
      own =
          sym (ap (λ (k : Call). k.caller) (get_or_from_slice_get calls i a a there) ∙ none) ∙ sym (get_or-map (λ (k : Call). k.caller) calls i a None (slice_get_within calls i a there))
          ∙ ap (λ (xs : List (Option ℕ)). get_or xs i None) h.are.are.called ∙ get_or-table (position_at callers h.are.numbers) (length h.are.numbers) i None low

      by : (o : Option ℕ) → get_or callers (get_or h.are.numbers i 0) None ≡ o → o ≡ None
      by None e = refl
      by (Some p) e =
          let here = called_place callers h.are.numbers [] i p (subst (AllCalled callers []) (sym h.are.listed.listed) (walks_called callers h.are.listed.order (filter (λ e. is_asked asked (span_at spans e)) entries) (asked_first spans callers asked entries calls h))) low e in
          let some : list_any (λ k. eqb k p) (take i h.are.numbers) ≡ true = list_any_at (λ k. eqb k p) (take i h.are.numbers) here.0 p here.1 (ap (λ k. eqb k p) here.2 ∙ eq-eqb p p refl) in
          let gone : position (λ k. eqb k p) (take i h.are.numbers) ≡ None = sym (own ∙ ap (option_and_then (λ c. position (λ k. eqb k c) (take i h.are.numbers))) e) in
          absurd (true≢false (sym (ap is_none gone) ∙ is_none-position (λ k. eqb k p) (take i h.are.numbers) ∙ ap not some))

  pub between : (i c j : ℕ) (a b : Call) → slice_get calls i ≡ Some a → a.caller ≡ Some c → slice_get calls j ≡ Some b → c < j → j < i → IsSome b.caller
  between i c j a b there up here more less = by b.caller refl
    where
      by : (o : Option ℕ) → b.caller ≡ o → IsSome o
      by (Some d) e = refl
      by None e =
          let low : i < length h.are.numbers = within spans callers asked entries calls h.ends h.roots h.are i a there in
          let p = get_or h.are.numbers c 0 in
          let s = get_or h.are.numbers j 0 in
          let d = get_or h.are.numbers i 0 in
          let root : get_or callers s None ≡ None = call_of_none j b here e in
          let own = All-get_or (IsAskedFor spans callers asked) h.are.numbers c 0 (omega (arith, more, less, low)) (are_asked_for spans callers asked entries calls h).each in
          let d_up : number_above callers (suc own.calls) d ≡ Some own.entry = above_caller callers own.calls d p (caller_is spans callers asked entries calls h.ends h.roots h.are i c a there up) ∙ own.above in
          let turns = subst (AllPairs (InTurn callers h.ends h.are.listed.order (filter (λ e. is_asked asked (span_at spans e)) entries) (asked_first spans callers asked entries calls h) (asked_apart spans callers asked entries calls h))) (sym h.are.listed.listed)
          (walks_turn callers h.ends h.are.listed.order (filter (λ e. is_asked asked (span_at spans e)) entries) (asked_first spans callers asked entries calls h) (asked_apart spans callers asked entries calls h)) in
          absurd (meet own.entry s (turns c j 0 more (omega (arith, less, low)) own.entry s (own.calls, own.above) own.first (0, refl) root) root d
          (turns j i 0 less low s own.entry (0, refl) root (suc own.calls, d_up) own.first))
        where
          meet : (r s : ℕ) → ((r ≡ s) × (get_or callers s None ≢ None)) ⊎ Before callers h.ends h.are.listed.order (filter (λ e. is_asked asked (span_at spans e)) entries) (asked_first spans callers asked entries calls h) (asked_apart spans callers asked entries calls h) r s
              → get_or callers s None ≡ None → (d : ℕ) → ((s ≡ r) × (get_or callers d None ≢ None)) ⊎ Before callers h.ends h.are.listed.order (filter (λ e. is_asked asked (span_at spans e)) entries) (asked_first spans callers asked entries calls h) (asked_apart spans callers asked entries calls h) s r → ⊥
          meet r s (inl q) root d k = q.1 root
          meet r s (inr q) root d (inl k) = not_itself callers h.ends h.are.listed.order (filter (λ e. is_asked asked (span_at spans e)) entries) (asked_first spans callers asked entries calls h) (asked_apart spans callers asked entries calls h) s (subst (λ z. Before callers h.ends h.are.listed.order (filter (λ e. is_asked asked (span_at spans e)) entries) (asked_first spans callers asked entries calls h) (asked_apart spans callers asked entries calls h) z s) (sym k.0) q)
          meet r s (inr q) root d (inr k) = not_both callers h.ends h.are.listed.order (filter (λ e. is_asked asked (span_at spans e)) entries) (asked_first spans callers asked entries calls h) (asked_apart spans callers asked entries calls h) r s q k

pub none_calls : EntriesAreCalledByNone
none_calls spans callers asked entries calls h i a there none = call_of_none spans callers asked entries calls h i a there none

pub together : CallsAreTogether
together spans callers asked entries calls h i c j a b there up here more less = between spans callers asked entries calls h i c j a b there up here more less
