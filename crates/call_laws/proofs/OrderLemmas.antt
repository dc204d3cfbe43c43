-- The calls of a request, whatever the order of the spans.
use Rattle.std.proofs.Common.{◌≡◌, ◌≢◌, ◌⊎◌, inl, inr, ℕ, zero, suc, ◌+◌, ◌<◌, ◌≤◌, List, [], ◌∷◌, ◌++◌, All, true, false, eq-eqb, Option, Some, None, length, get_or, map, drop, slice_get, refl, sym, ap, ◌∙◌, subst, arith, true≢false}
use Rattle.std.specs.Prelude.{is_none, not}
use Rattle.std.specs.Cmp.{IsTotalOrder}
use Rattle.std.specs.Cmp.Lexicographic.{slice_cmp}
use Rattle.std.specs.List.{AllPairs, Contains, flat_map, list_any, range_with_len}
use Rattle.std.specs.Ordering.{is_lt, nat_cmp, ordering_reverse, ordering_then}
use Rattle.std.specs.Str.{bytes_eq}
use Rattle.std.specs.declared.cmp.Ordering.{Ordering}
use Rattle.std.specs.declared.cmp.Ordering.TheVariants.{Less, Equal, Greater}
use Rattle.std.proofs.lemmas.Bool.{and_from, and_parts}
use Rattle.std.proofs.lemmas.Cmp.{nat_cmp_total, nat_list_cmp_total, on_total, ranked, then_total}
use Rattle.std.proofs.lemmas.List.{get_or-map, get_or_default, length-map, map-append}
use Rattle.std.proofs.lemmas.List.Elements.{All-contains, All-filter, All-from_get_or, All-get_or, All-head, All-map, All-tail, filter_passes}
use Rattle.std.proofs.lemmas.List.Folds.{list_any_at}
use Rattle.std.proofs.lemmas.List.Kept.{AllPairs-filter}
use Rattle.std.proofs.lemmas.List.Quantifiers.{position-Some}
use Rattle.std.proofs.lemmas.List.Sorted.{Contains-permutation, IsPermutation-sym, ranks_by, sorted_far}
use Rattle.std.proofs.lemmas.Option.{slice_get-get_or}
use Rattle.std.proofs.lemmas.Slice.Eq.{bytes_eq-Decides}
use Rattle.call_trees.specs.Below.{below_all, below_one, is_number}
use Rattle.call_trees.specs.Tables.{table_of}
use Rattle.call_trees.specs.Walks.{walk_from}
use Rattle.call_trees.proofs.GroupLemmas.{group_at}
use Rattle.call_trees.proofs.OrderLemmas.{order_within}
use Rattle.call_trees.proofs.TableLemmas.{get_or-table, length-table}
use Rattle.span_types.specs.declared.span.Span.{Span}
use Rattle.span_requests.specs.Callers.{caller_number, caller_numbers, is_caller, is_consumer, is_parent, is_parent_id}
use Rattle.span_requests.specs.SpansOnce.{have_one_id, spans_once}
use Rattle.span_requests.proofs.CallerLemmas.{is_none-position}
use Rattle.span_requests.proofs.ContainsLemmas.{contains_filter, contains_head, contains_range, contains_tail}
use Rattle.span_calls.specs.Calls.{Moments, moments_at, moments_by, moments_cmp}
use Rattle.span_calls.specs.Seen.{caller_in, no_span, span_at}
use Rattle.span_calls.proofs.RiseLemmas.{start_ordered}
use Rattle.span_calls.proofs.UnderLemmas.{is_some_number}
use Rattle.call_laws.specs.OrderLaws.{AreInOrderOfCalls, RequestsKeepTheirCalls, called_span, calls_from}
use Rattle.call_laws.proofs.OverlapLemmas.{same_bool}
use Rattle.call_laws.proofs.InputLemmas.{contains_cases, in_input, in_once}
use Rattle.call_laws.proofs.RootLemmas.{firsts_apart, ids_own, one_number}

-- no two spans have one id
abbrev HaveDifferentIds : List Span → Type 0
HaveDifferentIds spans = AllPairs (λ s t. have_one_id s t ≡ false) spans

-- ---- lists with the same elements, in order

module _ {X : Type 0} where
  head_pair : (R : X → X → Type 0) (x : X) (xs : List X) (z : X) → AllPairs R (x ∷ xs) → Contains xs z → R x z
  head_pair R x xs z h k = subst (R x) k.2 (h 0 (suc k.0) z (omega arith) (omega (arith, k.1)))

  tail_pairs : (R : X → X → Type 0) (x : X) (xs : List X) → AllPairs R (x ∷ xs) → AllPairs R xs
  tail_pairs R x xs h = λ i j d lt less. h (suc i) (suc j) d (omega (arith, lt)) (omega (arith, less))

  same_sorted : (R : X → X → Type 0) (xs ys : List X) → AllPairs (λ a b. a ≢ b) xs → AllPairs (λ a b. a ≢ b) ys → AllPairs R xs → AllPairs R ys
      → ((z : X) → Contains xs z → Contains ys z) → ((z : X) → Contains ys z → Contains xs z) → ((a b : X) → Contains xs a → Contains xs b → R a b → R b a → a ≡ b) → xs ≡ ys
  same_sorted R [] [] d e s t f g anti = refl
  same_sorted R [] (y ∷ ys) d e s t f g anti = let h = g y (contains_head y ys) in absurd (omega (arith, h.1))
  same_sorted R (x ∷ xs) [] d e s t f g anti = let h = f x (contains_head x xs) in absurd (omega (arith, h.1))
  same_sorted R (x ∷ xs) (y ∷ ys) d e s t f g anti =
      ap (λ zs. x ∷ zs) (same_sorted R xs ys (tail_pairs (λ a b. a ≢ b) x xs d) (tail_pairs (λ a b. a ≢ b) y ys e) (tail_pairs R x xs s) (tail_pairs R y ys t) forth back (λ a b k l. anti a b (contains_tail x xs a k) (contains_tail x xs b l)))
      ∙ ap (λ z. z ∷ ys) same
    where
      same : x ≡ y
      same = by (contains_cases y ys x (f x (contains_head x xs))) (contains_cases x xs y (g y (contains_head y ys)))
        where
          by : (x ≡ y) ⊎ Contains ys x → (y ≡ x) ⊎ Contains xs y → x ≡ y
          by (inl q) k = q
          by (inr q) (inl k) = sym k
          by (inr q) (inr k) = anti x y (contains_head x xs) (contains_tail x xs y k) (head_pair R x xs y s k) (head_pair R y ys x t q)

      forth : (z : X) → Contains xs z → Contains ys z
      forth z k = by (contains_cases y ys z (f z (contains_tail x xs z k)))
        where
          by : (z ≡ y) ⊎ Contains ys z → Contains ys z
          by (inl q) = absurd (head_pair (λ a b. a ≢ b) x xs z d k (same ∙ sym q))
          by (inr q) = q

      back : (z : X) → Contains ys z → Contains xs z
      back z k = by (contains_cases x xs z (g z (contains_tail y ys z k)))
        where
          by : (z ≡ x) ⊎ Contains xs z → Contains xs z
          by (inl q) = absurd (head_pair (λ a b. a ≢ b) y ys z e k (sym same ∙ sym q))
          by (inr q) = q

-- ---- the order of moments

moments_total : IsTotalOrder moments_cmp
moments_total = then_total (on_total (λ (m : Moments). m.start) nat_cmp_total) (then_total (on_total (λ (m : Moments). m.end) nat_cmp_total) (on_total (λ (m : Moments). m.id) nat_list_cmp_total))

then_equal : (o p : Ordering) → ordering_then o p ≡ Equal → (o ≡ Equal) × (p ≡ Equal)
then_equal Less p e = cc
then_equal Equal p e = (refl, e)
then_equal Greater p e = cc

equal_lists : (xs ys : List ℕ) → slice_cmp nat_cmp xs ys ≡ Equal → xs ≡ ys
equal_lists [] [] e = refl
equal_lists [] (y ∷ ys) e = cc
equal_lists (x ∷ xs) [] e = cc
equal_lists (x ∷ xs) (y ∷ ys) e =
    let two = then_equal (nat_cmp x y) (slice_cmp nat_cmp xs ys) e in
    ap (λ z. z ∷ xs) (ranked x y Equal (sym two.0)) ∙ ap (λ zs. y ∷ zs) (equal_lists xs ys two.1)

-- of two of which neither is less, the ids are one
one_id : (a b : Moments) → is_lt (moments_cmp a b) ≡ false → is_lt (moments_cmp b a) ≡ false → a.id ≡ b.id
one_id a b h k =
    let equal = by (moments_cmp b a) (moments_total.antisymm a b) k in
    equal_lists a.id b.id (then_equal (nat_cmp a.end b.end) (slice_cmp nat_cmp a.id b.id) (then_equal (nat_cmp a.start b.start) (ordering_then (nat_cmp a.end b.end) (slice_cmp nat_cmp a.id b.id)) equal).1).1
  where
    by : (p : Ordering) → moments_cmp a b ≡ ordering_reverse p → is_lt p ≡ false → moments_cmp a b ≡ Equal
    by Less e q = absurd (true≢false q)
    by Equal e q = e
    by Greater e q = absurd (true≢false (sym (ap is_lt e) ∙ h))

-- ---- what a span calls

module _ (spans : List Span) (once : HaveDifferentIds spans) where
  -- two spans that called one are one
  one_caller : (p q c : Span) → is_caller p c ≡ true → is_caller q c ≡ true → have_one_id p q ≡ true
  one_caller p q c h k = by c.parent refl
    where
      a : is_parent p c ≡ true
      a = (and_parts (not (is_consumer c.kind)) (is_parent p c) h).1

      b : is_parent q c ≡ true
      b = (and_parts (not (is_consumer c.kind)) (is_parent q c) k).1

      a2 : (bytes_eq c.trace p.trace ≡ true) × (is_parent_id c.parent p.id ≡ true)
      a2 = and_parts (bytes_eq c.trace p.trace) (is_parent_id c.parent p.id) a

      b2 : (bytes_eq c.trace q.trace ≡ true) × (is_parent_id c.parent q.id ≡ true)
      b2 = and_parts (bytes_eq c.trace q.trace) (is_parent_id c.parent q.id) b

      traces : p.trace ≡ q.trace
      traces = sym ((bytes_eq-Decides c.trace p.trace).0 a2.0) ∙ (bytes_eq-Decides c.trace q.trace).0 b2.0

      by : (o : Option (List ℕ)) → c.parent ≡ o → have_one_id p q ≡ true
      by None e = absurd (true≢false (sym a2.1 ∙ ap (λ (o : Option (List ℕ)). is_parent_id o p.id) e))
      by (Some id) e =
          let one = (bytes_eq-Decides id p.id).0 (sym (ap (λ (o : Option (List ℕ)). is_parent_id o p.id) e) ∙ a2.1) in
          let two = (bytes_eq-Decides id q.id).0 (sym (ap (λ (o : Option (List ℕ)). is_parent_id o q.id) e) ∙ b2.1) in
          and_from (bytes_eq p.trace q.trace) (bytes_eq p.id q.id) ((bytes_eq-Decides p.trace q.trace).1 traces) ((bytes_eq-Decides p.id q.id).1 (sym one ∙ two))

  caller_at : (j : ℕ) → j < length spans → get_or (caller_numbers spans) j None ≡ caller_number spans (span_at spans j)
  caller_at j lt = get_or-map (caller_number spans) spans j no_span None lt

  -- a number is that of the caller exactly where its span called
  called_by : (e j : ℕ) → e < length spans → j < length spans → is_number e (get_or (caller_numbers spans) j None) ≡ is_caller (span_at spans e) (span_at spans j)
  called_by e j lt less = same_bool (is_number e (get_or (caller_numbers spans) j None)) (is_caller (span_at spans e) (span_at spans j)) forth back
    where
      forth : is_number e (get_or (caller_numbers spans) j None) ≡ true → is_caller (span_at spans e) (span_at spans j) ≡ true
      forth h = (position-Some (λ p. is_caller p (span_at spans j)) spans e no_span (sym (caller_at j less) ∙ is_some_number e (get_or (caller_numbers spans) j None) h)).1

      back : is_caller (span_at spans e) (span_at spans j) ≡ true → is_number e (get_or (caller_numbers spans) j None) ≡ true
      back h = by (caller_number spans (span_at spans j)) refl
        where
          any : list_any (λ p. is_caller p (span_at spans j)) spans ≡ true
          any = list_any_at (λ p. is_caller p (span_at spans j)) spans e no_span lt h

          by : (o : Option ℕ) → caller_number spans (span_at spans j) ≡ o → is_number e (get_or (caller_numbers spans) j None) ≡ true
          by None q = absurd (true≢false (sym (ap is_none q) ∙ is_none-position (λ p. is_caller p (span_at spans j)) spans ∙ ap not any))
          by (Some k) q =
              let found = position-Some (λ p. is_caller p (span_at spans j)) spans k no_span q in
              let same : k ≡ e = one_number spans once k e found.0 lt (one_caller (span_at spans k) (span_at spans e) (span_at spans j) found.1 h) in
              ap (is_number e) (caller_at j less ∙ q) ∙ eq-eqb k e same

  module _ (order : List ℕ) (ordered : AreInOrderOfCalls spans order) where
    size : length (table_of (moments_at spans (caller_numbers spans)) (length spans)) ≡ length spans
    size = length-table (moments_at spans (caller_numbers spans)) (length spans)

    order_low : All (λ j. j < length spans) order
    order_low = order_within moments_cmp (table_of (moments_at spans (caller_numbers spans)) (length spans)) order (length spans) (sym size) ordered

    order_has : (j : ℕ) → j < length spans → Contains order j
    order_has j lt = Contains-permutation (range_with_len 0 (length (table_of (moments_at spans (caller_numbers spans)) (length spans)))) order j ordered.all (contains_range (length (table_of (moments_at spans (caller_numbers spans)) (length spans))) j (omega (arith, lt, size)))

    order_apart : AllPairs (λ d e. d ≢ e) order
    order_apart i j d lt less = (start_ordered spans (caller_numbers spans) order ordered i j d lt less).1

    -- of two numbers the first one's moments are not greater
    abbrev Rise : ℕ → ℕ → Type 0
    Rise i j = is_lt (moments_cmp (moments_at spans (caller_numbers spans) j) (moments_at spans (caller_numbers spans) i)) ≡ false

    order_rises : AllPairs Rise order
    order_rises i j d lt less = sorted_far (λ x y. is_lt (moments_cmp (moments_at spans (caller_numbers spans) x) (moments_at spans (caller_numbers spans) y))) (ranks_by moments_total (moments_at spans (caller_numbers spans))) order next i j d (omega (arith, lt)) less
      where
        at : (i : ℕ) → i < length order → slice_get (table_of (moments_at spans (caller_numbers spans)) (length spans)) (get_or order i 0) ≡ Some (moments_at spans (caller_numbers spans) (get_or order i 0))
        at i lt =
            let low = All-get_or (λ j. j < length spans) order i 0 lt order_low in
            let d = moments_at spans (caller_numbers spans) 0 in
            slice_get-get_or (table_of (moments_at spans (caller_numbers spans)) (length spans)) (get_or order i 0) d (omega (arith, low, size)) ∙ ap (λ (m : Moments). Some m) (get_or-table (moments_at spans (caller_numbers spans)) (length spans) (get_or order i 0) d low)

        next : (k : ℕ) (d : ℕ) → 0 ≤ k → k + 1 < length order → is_lt (moments_cmp (moments_at spans (caller_numbers spans) (get_or order (k + 1) d)) (moments_at spans (caller_numbers spans) (get_or order k d))) ≡ false
        next k d le lt =
            ap (λ x. is_lt (moments_cmp (moments_at spans (caller_numbers spans) x) (moments_at spans (caller_numbers spans) (get_or order k d)))) (get_or_default order (k + 1) d 0 lt)
            ∙ ap (λ x. is_lt (moments_cmp (moments_at spans (caller_numbers spans) (get_or order (k + 1) 0)) (moments_at spans (caller_numbers spans) x))) (get_or_default order k d 0 (omega (arith, lt)))
            ∙ ordered.rise k (moments_at spans (caller_numbers spans) (get_or order k 0)) (moments_at spans (caller_numbers spans) (get_or order (k + 1) 0)) lt (at k (omega (arith, lt))) (at (k + 1) lt)

    -- the spans that one calls, in order
    abbrev children : ℕ → List Span
    children e = map (span_at spans) (below_one (caller_numbers spans) order e)

    below_low : (e : ℕ) → All (λ j. j < length spans) (below_one (caller_numbers spans) order e)
    below_low e = All-filter (λ j. is_number e (get_or (caller_numbers spans) j None)) (λ j. j < length spans) order order_low

    below_called : (e : ℕ) → All (λ j. is_number e (get_or (caller_numbers spans) j None) ≡ true) (below_one (caller_numbers spans) order e)
    below_called e = filter_passes (λ j. is_number e (get_or (caller_numbers spans) j None)) order

    all_children : (e : ℕ) → e < length spans → All (λ c. Contains spans c × (is_caller (span_at spans e) c ≡ true)) (children e)
    all_children e lt = All-map (λ c. Contains spans c × (is_caller (span_at spans e) c ≡ true)) (span_at spans) (below_one (caller_numbers spans) order e)
        (All-from_get_or (λ j. Contains spans (span_at spans j) × (is_caller (span_at spans e) (span_at spans j) ≡ true)) (below_one (caller_numbers spans) order e) 0 (λ i less.
        let j = get_or (below_one (caller_numbers spans) order e) i 0 in
        let low : j < length spans = All-get_or (λ j. j < length spans) (below_one (caller_numbers spans) order e) i 0 less (below_low e) in (
          (j, low, get_or_default spans j (span_at spans j) no_span low),
          sym (called_by e j lt low) ∙ All-get_or (λ j. is_number e (get_or (caller_numbers spans) j None) ≡ true) (below_one (caller_numbers spans) order e) i 0 less (below_called e),
        )))

    has_child : (e : ℕ) → e < length spans → (c : Span) → Contains spans c → is_caller (span_at spans e) c ≡ true → Contains (children e) c
    has_child e lt c h own =
        let j = h.0 in
        let is : span_at spans j ≡ c = get_or_default spans j no_span c h.1 ∙ h.2 in
        let here = contains_filter (λ j. is_number e (get_or (caller_numbers spans) j None)) order j (order_has j h.1) (called_by e j lt h.1 ∙ ap (is_caller (span_at spans e)) is ∙ own) in (
          here.0,
          omega (arith, here.1, length-map (below_one (caller_numbers spans) order e) (span_at spans)),
          get_or-map (span_at spans) (below_one (caller_numbers spans) order e) here.0 j c here.1 ∙ ap (span_at spans) here.2 ∙ is,
        )

    children_apart : (e : ℕ) → AllPairs (λ a b. a ≢ b) (children e)
    children_apart e i j d lt less same =
        let xs = below_one (caller_numbers spans) order e in
        let low : j < length xs = omega (arith, less, length-map xs (span_at spans)) in
        let early : i < length xs = omega (arith, lt, low) in
        let a = get_or xs i 0 in
        let b = get_or xs j 0 in
        let equal : span_at spans a ≡ span_at spans b = sym (get_or-map (span_at spans) xs i 0 d early) ∙ same ∙ get_or-map (span_at spans) xs j 0 d low in
        AllPairs-filter (λ d e. d ≢ e) (λ j. is_number e (get_or (caller_numbers spans) j None)) order order_apart i j 0 lt low
        (one_number spans once a b (All-get_or (λ j. j < length spans) xs i 0 early (below_low e)) (All-get_or (λ j. j < length spans) xs j 0 low (below_low e)) (ap (λ (s : Span). have_one_id s (span_at spans b)) equal ∙ ids_own (span_at spans b)))

    children_rise : (e : ℕ) → AllPairs (λ a b. is_lt (moments_cmp (moments_by (Some (span_at spans e)) b) (moments_by (Some (span_at spans e)) a)) ≡ false) (children e)
    children_rise e i j d lt less =
        let xs = below_one (caller_numbers spans) order e in
        let low : j < length xs = omega (arith, less, length-map xs (span_at spans)) in
        let early : i < length xs = omega (arith, lt, low) in
        ap (λ (c : Span). is_lt (moments_cmp (moments_by (Some (span_at spans e)) c) (moments_by (Some (span_at spans e)) (get_or (map (span_at spans) xs) i d)))) (get_or-map (span_at spans) xs j 0 d low)
        ∙ ap (λ (c : Span). is_lt (moments_cmp (moments_by (Some (span_at spans e)) (span_at spans (get_or xs j 0))) (moments_by (Some (span_at spans e)) c))) (get_or-map (span_at spans) xs i 0 d early)
        ∙ sym (ap (λ (m : Moments). is_lt (moments_cmp m (moments_at spans (caller_numbers spans) (get_or xs i 0)))) (seen j low) ∙ ap (λ (m : Moments). is_lt (moments_cmp (moments_by (Some (span_at spans e)) (span_at spans (get_or xs j 0))) m)) (seen i early))
        ∙ AllPairs-filter Rise (λ j. is_number e (get_or (caller_numbers spans) j None)) order order_rises i j 0 lt low
      where
        seen : (k : ℕ) → k < length (below_one (caller_numbers spans) order e) → moments_at spans (caller_numbers spans) (get_or (below_one (caller_numbers spans) order e) k 0) ≡ moments_by (Some (span_at spans e)) (span_at spans (get_or (below_one (caller_numbers spans) order e) k 0))
        seen k low = ap (λ (o : Option ℕ). moments_by (caller_in spans o) (span_at spans (get_or (below_one (caller_numbers spans) order e) k 0)))
            (is_some_number e (get_or (caller_numbers spans) (get_or (below_one (caller_numbers spans) order e) k 0) None) (All-get_or (λ j. is_number e (get_or (caller_numbers spans) j None) ≡ true) (below_one (caller_numbers spans) order e) k 0 low (below_called e)))

-- ---- the same spans in another order

module _ (spans others : List Span) (order other : List ℕ) (once : HaveDifferentIds spans) (also_once : HaveDifferentIds others) (there : (s : Span) → Contains spans s → Contains others s) (back : (s : Span) → Contains others s → Contains spans s) (ordered : AreInOrderOfCalls spans order) (also_ordered : AreInOrderOfCalls others other) where
  same_children : (e f : ℕ) → e < length spans → f < length others → span_at spans e ≡ span_at others f → children spans once order ordered e ≡ children others also_once other also_ordered f
  same_children e f lt less same =
      same_sorted (λ a b. is_lt (moments_cmp (moments_by (Some (span_at spans e)) b) (moments_by (Some (span_at spans e)) a)) ≡ false) (children spans once order ordered e) (children others also_once other also_ordered f)
      (children_apart spans once order ordered e) (children_apart others also_once other also_ordered f) (children_rise spans once order ordered e)
      (subst (λ (s : Span). AllPairs (λ a b. is_lt (moments_cmp (moments_by (Some s) b) (moments_by (Some s) a)) ≡ false) (children others also_once other also_ordered f)) (sym same) (children_rise others also_once other also_ordered f))
      (λ c h.
      let own = All-contains (λ c. Contains spans c × (is_caller (span_at spans e) c ≡ true)) (children spans once order ordered e) c (all_children spans once order ordered e lt) h in
      has_child others also_once other also_ordered f less c (there c own.0) (ap (λ (s : Span). is_caller s c) (sym same) ∙ own.1))
      (λ c h.
      let own = All-contains (λ c. Contains others c × (is_caller (span_at others f) c ≡ true)) (children others also_once other also_ordered f) c (all_children others also_once other also_ordered f less) h in
      has_child spans once order ordered e lt c (back c own.0) (ap (λ (s : Span). is_caller s c) same ∙ own.1))
      (λ a b h k one two.
      let p = All-contains (λ c. Contains spans c × (is_caller (span_at spans e) c ≡ true)) (children spans once order ordered e) a (all_children spans once order ordered e lt) h in
      let q = All-contains (λ c. Contains spans c × (is_caller (span_at spans e) c ≡ true)) (children spans once order ordered e) b (all_children spans once order ordered e lt) k in
      one_span a b p.0 q.0 (trace_of a p.1 ∙ sym (trace_of b q.1)) (one_id (moments_by (Some (span_at spans e)) a) (moments_by (Some (span_at spans e)) b) two one))
    where
      trace_of : (c : Span) → is_caller (span_at spans e) c ≡ true → c.trace ≡ (span_at spans e).trace
      trace_of c h = (bytes_eq-Decides c.trace (span_at spans e).trace).0 (and_parts (bytes_eq c.trace (span_at spans e).trace) (is_parent_id c.parent (span_at spans e).id) (and_parts (not (is_consumer c.kind)) (is_parent (span_at spans e) c) h).1).0

      one_span : (a b : Span) → Contains spans a → Contains spans b → a.trace ≡ b.trace → a.id ≡ b.id → a ≡ b
      one_span a b h k traces ids =
          let a_is : span_at spans h.0 ≡ a = get_or_default spans h.0 no_span a h.1 ∙ h.2 in
          let b_is : span_at spans k.0 ≡ b = get_or_default spans k.0 no_span b k.1 ∙ k.2 in
          let both : have_one_id a b ≡ true = and_from (bytes_eq a.trace b.trace) (bytes_eq a.id b.id) ((bytes_eq-Decides a.trace b.trace).1 traces) ((bytes_eq-Decides a.id b.id).1 ids) in
          let number : h.0 ≡ k.0 = one_number spans once h.0 k.0 h.1 k.1 (ap (λ (s : Span). have_one_id s (span_at spans k.0)) a_is ∙ ap (have_one_id a) b_is ∙ both) in
          sym a_is ∙ ap (span_at spans) number ∙ b_is

  -- what a number calls
  abbrev AreCalledBy : List Span → ℕ → List ℕ → Type 0
  AreCalledBy xs e ns = All (λ j. (j < length xs) × (get_or (caller_numbers xs) j None ≡ Some e)) ns

  calls_same : (n e f : ℕ) → e < length spans → f < length others → span_at spans e ≡ span_at others f → caller_in spans (get_or (caller_numbers spans) e None) ≡ caller_in others (get_or (caller_numbers others) f None) → calls_from spans order n e ≡ calls_from others other n f
  calls_same zero e f lt less same up = refl
  calls_same (suc n) e f lt less same up =
      ap (λ (o : Option Span). (o, span_at spans e) ∷ map (called_span spans) (flat_map (walk_from (below_all (caller_numbers spans) order) n) (get_or (below_all (caller_numbers spans) order) e []))) up
      ∙ ap (λ (s : Span). (caller_in others (get_or (caller_numbers others) f None), s) ∷ map (called_span spans) (flat_map (walk_from (below_all (caller_numbers spans) order) n) (get_or (below_all (caller_numbers spans) order) e []))) same
      ∙ ap (λ (cs : List (Option Span × Span)). called_span others f ∷ cs)
      (flat_same (λ x y low high one k l. calls_same n x y low high one (ap (caller_in spans) k ∙ ap (λ (s : Span). Some s) same ∙ sym (ap (caller_in others) l))) (get_or (below_all (caller_numbers spans) order) e []) (get_or (below_all (caller_numbers others) other) f []) spans_same here below_other)
    where
      here_is : get_or (below_all (caller_numbers spans) order) e [] ≡ below_one (caller_numbers spans) order e
      here_is = group_at (caller_numbers spans) order e [] (omega (arith, lt, length-map spans (caller_number spans)))

      there_is : get_or (below_all (caller_numbers others) other) f [] ≡ below_one (caller_numbers others) other f
      there_is = group_at (caller_numbers others) other f [] (omega (arith, less, length-map others (caller_number others)))

      spans_same : map (span_at spans) (get_or (below_all (caller_numbers spans) order) e []) ≡ map (span_at others) (get_or (below_all (caller_numbers others) other) f [])
      spans_same = ap (map (span_at spans)) here_is ∙ same_children e f lt less same ∙ sym (ap (map (span_at others)) there_is)

      called : (xs : List Span) (a : HaveDifferentIds xs) (ns : List ℕ) (b : AreInOrderOfCalls xs ns) (g : ℕ) → AreCalledBy xs g (below_one (caller_numbers xs) ns g)
      called xs a ns b g = All-from_get_or (λ j. (j < length xs) × (get_or (caller_numbers xs) j None ≡ Some g)) (below_one (caller_numbers xs) ns g) 0 (λ i low. (
        All-get_or (λ j. j < length xs) (below_one (caller_numbers xs) ns g) i 0 low (below_low xs a ns b g),
        is_some_number g (get_or (caller_numbers xs) (get_or (below_one (caller_numbers xs) ns g) i 0) None) (All-get_or (λ j. is_number g (get_or (caller_numbers xs) j None) ≡ true) (below_one (caller_numbers xs) ns g) i 0 low (below_called xs a ns b g)),
      ))

      here : AreCalledBy spans e (get_or (below_all (caller_numbers spans) order) e [])
      here = subst (AreCalledBy spans e) (sym here_is) (called spans once order ordered e)

      below_other : AreCalledBy others f (get_or (below_all (caller_numbers others) other) f [])
      below_other = subst (AreCalledBy others f) (sym there_is) (called others also_once other also_ordered f)

      flat_same : ((x y : ℕ) → x < length spans → y < length others → span_at spans x ≡ span_at others y → get_or (caller_numbers spans) x None ≡ Some e → get_or (caller_numbers others) y None ≡ Some f → calls_from spans order n x ≡ calls_from others other n y)
          → (xs ys : List ℕ) → map (span_at spans) xs ≡ map (span_at others) ys → AreCalledBy spans e xs → AreCalledBy others f ys
          → map (called_span spans) (flat_map (walk_from (below_all (caller_numbers spans) order) n) xs) ≡ map (called_span others) (flat_map (walk_from (below_all (caller_numbers others) other) n) ys)
      flat_same rest [] [] q h k = refl
      flat_same rest [] (y ∷ ys) q h k = absurd (omega (arith, ap length q))
      flat_same rest (x ∷ xs) [] q h k = absurd (omega (arith, ap length q))
      flat_same rest (x ∷ xs) (y ∷ ys) q h k =
          let a = All-head (λ j. (j < length spans) × (get_or (caller_numbers spans) j None ≡ Some e)) x xs h in
          let b = All-head (λ j. (j < length others) × (get_or (caller_numbers others) j None ≡ Some f)) y ys k in
          let first : span_at spans x ≡ span_at others y = ap (λ (ss : List Span). get_or ss 0 no_span) q in
          let later : map (span_at spans) xs ≡ map (span_at others) ys = ap (λ (ss : List Span). drop 1 ss) q in
          map-append (called_span spans) (walk_from (below_all (caller_numbers spans) order) n x) (flat_map (walk_from (below_all (caller_numbers spans) order) n) xs)
          ∙ ap (λ (cs : List (Option Span × Span)). cs ++ map (called_span spans) (flat_map (walk_from (below_all (caller_numbers spans) order) n) xs)) (rest x y a.0 b.0 first a.1 b.1)
          ∙ ap (λ (cs : List (Option Span × Span)). calls_from others other n y ++ cs) (flat_same rest xs ys later (All-tail (λ j. (j < length spans) × (get_or (caller_numbers spans) j None ≡ Some e)) x xs h) (All-tail (λ j. (j < length others) × (get_or (caller_numbers others) j None ≡ Some f)) y ys k))
          ∙ sym (map-append (called_span others) (walk_from (below_all (caller_numbers others) other) n y) (flat_map (walk_from (below_all (caller_numbers others) other) n) ys))

pub keep_calls : RequestsKeepTheirCalls
keep_calls input others order other own also_own moved ordered also_ordered n e f lt less none nil same =
    calls_same (spans_once input) (spans_once others) order other (firsts_apart have_one_id input) (firsts_apart have_one_id others)
    (λ s h. in_once others also_own s (Contains-permutation input others s moved (in_input input s h))) (λ s h. in_once input own s (Contains-permutation others input s (IsPermutation-sym input others moved) (in_input others s h)))
    ordered also_ordered n e f lt less same (ap (caller_in (spans_once input)) none ∙ sym (ap (caller_in (spans_once others)) nil))
