-- Where spans lie within one another on one machine, so do their calls.
use Rattle.std.proofs.Common.{◌≡◌, ◌⊎◌, inl, inr, ℕ, ◌+◌, ◌-◌, ◌/◌, ◌<◌, ◌≤◌, ◌^◌, List, [], ◌∷◌, ◌&&◌, ◌||◌, All, Bool, true, false, cond, eqb, min, nat_le, nat_lt, not, Option, Some, None, length, get_or, map, take, refl, sym, ap, ◌∙◌, subst, arith, eq-eqb, true≢false}
use Rattle.std.specs.Prelude.{position}
use Rattle.std.specs.List.{AllPairs, range_with_len}
use Rattle.std.specs.Option.{option_and_then}
use Rattle.std.proofs.lemmas.Bool.{and_from, cases_lt, eqb-true, le-ltb, lt-ltb, or_left, or_right}
use Rattle.std.proofs.lemmas.List.{get_or-map, get_or-take, get_or_past, length-map, length-take}
use Rattle.std.proofs.lemmas.List.Quantifiers.{position-Some}
use Rattle.std.proofs.lemmas.List.Elements.{All-from_get_or, All-get_or}
use Rattle.std.proofs.lemmas.List.Folds.{list_any_at}
use Rattle.std.proofs.lemmas.List.Kept.{AllPairs-filter}
use Rattle.span_types.specs.declared.span.Span.{Span}
use Rattle.call_trees.specs.Below.{is_number}
use Rattle.call_trees.proofs.GroupLemmas.{group_at}
use Rattle.call_trees.proofs.TableLemmas.{get_or-table, length_from_table}
use Rattle.span_requests.proofs.ApartLemmas.{range_rises}
use Rattle.span_calls.specs.Calls.{AreBefore, StartInOrder, moments_at, moments_by, position_at}
use Rattle.span_calls.specs.Seen.{are_apart, caller_in, duration, seen_start, span_at}
use Rattle.span_calls.specs.declared.call.Call.{Call}
use Rattle.span_calls.proofs.RiseLemmas.{calls_rise}
use Rattle.call_contexts.specs.Contexts.{AreContexts, Frame}
use Rattle.context_forks.specs.Forks.{callers_of, calls_below, context_pair, context_pairs, has_reaching, is_forked, is_linked}
use Rattle.context_forks.specs.Partners.{end_of, overlap, own_end, own_start, pairs_of, start_of}
use Rattle.context_forks.proofs.PairLemmas.{contexts_within}
use Rattle.linked_groups.specs.Groups.{groups_of}
use Rattle.linked_groups.proofs.GroupLemmas.{links_join}
use Rattle.call_laws.specs.CallLaws.{AreCallsOf}
use Rattle.call_laws.specs.OverlapLaws.{are_beside, have_one_caller, overlaps}
use Rattle.call_laws.proofs.OnceLemmas.{spans_once}
use Rattle.call_laws.proofs.OverlapLemmas.{of_overlaps, overlaps_at}
use Rattle.thread_steps.specs.Parts.{Grouping, fork_together, forks, group_of}
use Rattle.thread_steps.proofs.TableLemmas.{below_called, caller_before}
use Rattle.time_laws.specs.NestedCalls.{AreNestedSpans, NestedSpansHaveNestedCalls, strict_grouping}
use Rattle.time_laws.specs.OwnTimes.{AreNested}
use Rattle.time_laws.proofs.SpanLemmas.{numbers_rise, rank}

map_twice : {X Y Z : Type 0} (g : Y → Z) (f : X → Y) (xs : List X) → map g (map f xs) ≡ map (λ x. g (f x)) xs
map_twice g f [] = refl
map_twice {X} {Y} {Z} g f (x ∷ xs) = ap (λ (zs : List Z). g (f x) ∷ zs) (map_twice g f xs)

some_none : (n : ℕ) → Some n ≡ None → ⊥
some_none n h = cc

some_is : (m n : ℕ) → Some m ≡ Some n → m ≡ n
some_is m n h = cc

module _ (spans : List Span) (callers : List (Option ℕ)) (asked : Option (List ℕ)) (entries : List ℕ) (calls : List Call) (h : AreCallsOf spans callers asked entries calls) (nested : AreNestedSpans spans callers) (before : AreBefore calls) where
  -- the number of the span of a call
  abbrev number : ℕ → ℕ
  number i = get_or h.are.numbers i 0

  size : length calls ≡ length h.are.numbers
  size = length_from_table (position_at callers h.are.numbers) (λ (k : Call). k.caller) calls (length h.are.numbers) h.are.are.called

  number_within : (i : ℕ) → i < length calls → number i < length spans
  number_within i lt = All-get_or (λ n. n < length spans) h.are.numbers i 0 (omega (arith, lt, size)) (spans_once spans callers asked entries calls h).within

  -- a span is seen when it runs

  seen_start_is : (d : ℕ) → d < length spans → (moments_at spans callers d).start ≡ (span_at spans d).start
  seen_start_is d lt = by (get_or callers d None) refl
    where
      by : (o : Option ℕ) → get_or callers d None ≡ o → (moments_by (caller_in spans o) (span_at spans d)).start ≡ (span_at spans d).start
      by None e = refl
      by (Some c) e =
          let near : are_apart (span_at spans c) (span_at spans d) ≡ false = nested.together c d (caller_within d c e) lt in
          ap (λ b. cond (b && not (nat_le (span_at spans c).start (span_at spans d).start && nat_le (span_at spans d).end (span_at spans c).end)) (min ((span_at spans c).start + (duration (span_at spans c) - duration (span_at spans d)) / 2) (2 ^ 64 - 1)) (span_at spans d).start) near
        where
          caller_within : (d c : ℕ) → get_or callers d None ≡ Some c → c < length spans
          caller_within d c e = omega (arith, h.called d c e, h.same)

  pub seen_end_is : (d : ℕ) → d < length spans → (moments_at spans callers d).end ≡ (span_at spans d).end
  seen_end_is d lt = by (get_or callers d None) refl
    where
      by : (o : Option ℕ) → get_or callers d None ≡ o → (moments_by (caller_in spans o) (span_at spans d)).end ≡ (span_at spans d).end
      by None e = refl
      by (Some c) e =
          let own = nested.ends d lt in
          let start : seen_start (span_at spans c) (span_at spans d) ≡ (span_at spans d).start = sym (ap (λ (o : Option ℕ). (moments_by (caller_in spans o) (span_at spans d)).start) e) ∙ seen_start_is d lt in
          ap (λ n. min (n + duration (span_at spans d)) (2 ^ 64 - 1)) start
          ∙ (let m : min ((span_at spans d).start + ((span_at spans d).end - (span_at spans d).start)) (2 ^ 64 - 1) ≡ (span_at spans d).end = omega (arith, own.0, own.1) in m)

  -- when calls start and end

  start_is : (i : ℕ) → i < length calls → start_of calls i ≡ (moments_at spans callers (number i)).start
  start_is i lt = ap (λ (xs : List ℕ). get_or xs i 0) h.are.are.starts ∙ get_or-map (λ k. (moments_at spans callers k).start) h.are.numbers i 0 0 (omega (arith, lt, size))

  end_is : (i : ℕ) → i < length calls → end_of calls i ≡ (moments_at spans callers (number i)).end
  end_is i lt = ap (λ (xs : List ℕ). get_or xs i 0) h.are.are.ends ∙ get_or-map (λ k. (moments_at spans callers k).end) h.are.numbers i 0 0 (omega (arith, lt, size))

  start_at : (i : ℕ) → i < length calls → start_of calls i ≡ (span_at spans (number i)).start
  start_at i lt = start_is i lt ∙ seen_start_is (number i) (number_within i lt)

  end_at : (i : ℕ) → i < length calls → end_of calls i ≡ (span_at spans (number i)).end
  end_at i lt = end_is i lt ∙ seen_end_is (number i) (number_within i lt)

  own_field : (field : Span → ℕ) (i : ℕ) → i < length calls → get_or (map (λ (c : Call). field c.span.now) calls) i 0 ≡ field (span_at spans (number i))
  own_field field i lt =
      ap (λ (xs : List ℕ). get_or xs i 0) (sym (map_twice field (λ (c : Call). c.span.now) calls) ∙ ap (map field) h.are.are.told ∙ map_twice field (span_at spans) h.are.numbers)
      ∙ get_or-map (λ k. field (span_at spans k)) h.are.numbers i 0 0 (omega (arith, lt, size))

  -- callers

  called_within : (i c : ℕ) → get_or (callers_of calls) i None ≡ Some c → i < length calls
  called_within i c e = by (cases_lt i (length calls))
    where
      by : (i < length calls) ⊎ (length calls ≤ i) → i < length calls
      by (inl lt) = lt
      by (inr le) = absurd (some_none c (sym e ∙ get_or_past (callers_of calls) i None (omega (arith, le, length-map calls (λ (k : Call). k.caller)))))

  caller_is : (i c : ℕ) → get_or (callers_of calls) i None ≡ Some c → get_or callers (number i) None ≡ Some (number c)
  caller_is i c up = by (get_or callers (number i) None) refl
    where
      lt : i < length h.are.numbers
      lt = omega (arith, called_within i c up, size)

      own : Some c ≡ position_at callers h.are.numbers i
      own = sym up ∙ ap (λ (xs : List (Option ℕ)). get_or xs i None) h.are.are.called ∙ get_or-table (position_at callers h.are.numbers) (length h.are.numbers) i None lt

      by : (o : Option ℕ) → get_or callers (number i) None ≡ o → o ≡ Some (number c)
      by None e = absurd (some_none c (own ∙ ap (option_and_then (λ d. position (λ k. eqb k d) (take i h.are.numbers))) e))
      by (Some d) e =
          let found = position-Some (λ k. eqb k d) (take i h.are.numbers) c 0 (sym (own ∙ ap (option_and_then (λ d. position (λ k. eqb k d) (take i h.are.numbers))) e)) in
          ap (λ (n : ℕ). Some n) (sym (sym (get_or-take i h.are.numbers c 0 (omega (arith, found.0, length-take i h.are.numbers))) ∙ eqb-true (get_or (take i h.are.numbers) c 0) d found.1))

  -- of two calls of one caller in order, the rank of the first one is not greater
  ranks_rise : (i j c : ℕ) → i < j → get_or (callers_of calls) i None ≡ Some c → get_or (callers_of calls) j None ≡ Some c → rank spans callers (number i) ≤ rank spans callers (number j)
  ranks_rise i j c lt one two = numbers_rise spans callers asked entries calls h.ends h.roots h.are i j 0 lt (omega (arith, called_within j c two, size)) (number c) (caller_is i c one) (caller_is j c two)

  rise : (i j c : ℕ) → i < j → get_or (callers_of calls) i None ≡ Some c → get_or (callers_of calls) j None ≡ Some c → start_of calls i ≤ start_of calls j
  rise i j c lt one two =
      omega (arith, ranks_rise i j c lt one two, start_is i (called_within i c one), start_is j (called_within j c two), bit (nat_lt (moments_at spans callers (number j)).start (moments_at spans callers (number j)).end))
    where
      bit : (b : Bool) → cond b 1 0 ≤ 1
      bit true = omega arith
      bit false = omega arith

  -- one of no length that starts with another one stands before it
  no_tie : (i j c : ℕ) → i < j → get_or (callers_of calls) i None ≡ Some c → get_or (callers_of calls) j None ≡ Some c → start_of calls i ≡ start_of calls j → end_of calls j ≤ start_of calls j → start_of calls j < end_of calls i → ⊥
  no_tie i j c lt one two same none some =
      let wi = called_within i c one in
      let wj = called_within j c two in
      omega (
        arith,
        ranks_rise i j c lt one two,
        start_is i wi,
        start_is j wj,
        same,
        ap (λ b. cond {A = ℕ} b 1 0) (lt-ltb (moments_at spans callers (number i)).start (moments_at spans callers (number i)).end (omega (arith, some, same, start_is i wi, end_is i wi))),
        ap (λ b. cond {A = ℕ} b 1 0) (le-ltb (moments_at spans callers (number j)).start (moments_at spans callers (number j)).end (omega (arith, none, start_is j wj, end_is j wj))),
      )

  in_order : StartInOrder calls
  in_order = calls_rise spans callers asked entries calls h.ends h.roots h.are

  -- calls of one caller, as they stand below it
  listed : (c : ℕ) → c < length calls → (R : ℕ → ℕ → Type 0) → ((i j : ℕ) → i < j → get_or (callers_of calls) i None ≡ Some c → get_or (callers_of calls) j None ≡ Some c → R i j) → AllPairs R (get_or (calls_below calls) c [])
  listed c low R each = λ i j d lt less.
      let xs = get_or (calls_below calls) c [] in
      let called = below_called calls c low in
      each (get_or xs i d) (get_or xs j d) (rises i j d lt less)
      (All-get_or (λ k. get_or (callers_of calls) k None ≡ Some c) xs i d (omega (arith, lt, less)) called) (All-get_or (λ k. get_or (callers_of calls) k None ≡ Some c) xs j d less called)
    where
      rises : AllPairs (λ i j. i < j) (get_or (calls_below calls) c [])
      rises = subst (AllPairs (λ i j. i < j)) (sym (group_at (callers_of calls) (range_with_len 0 (length calls)) c [] (omega (arith, low, length-map calls (λ (k : Call). k.caller)))))
          (AllPairs-filter (λ i j. i < j) (λ j. is_number c (get_or (callers_of calls) j None)) (range_with_len 0 (length calls)) (range_rises (length calls)))

  module _ (numbers : List ℕ) (contexts : List Frame) (are : AreContexts calls numbers contexts) where
    grouping : Grouping
    grouping = strict_grouping calls numbers (length contexts)

    -- both are forked, in one group
    abbrev Together : ℕ → ℕ → Type 0
    Together a b = (forks (strict_grouping calls numbers (length contexts)) a ≡ true) × (forks (strict_grouping calls numbers (length contexts)) b ≡ true)
        × (group_of (strict_grouping calls numbers (length contexts)) a ≡ group_of (strict_grouping calls numbers (length contexts)) b)

    linked_forks : (x : ℕ) → x < length contexts → is_linked (context_pairs 0 calls numbers) x ≡ true → get_or (strict_grouping calls numbers (length contexts)).forked x false ≡ true
    linked_forks x lt linked = get_or-table (is_forked 0 calls numbers) (length contexts) x false lt ∙ or_right (has_reaching 0 calls numbers x) (is_linked (context_pairs 0 calls numbers) x) linked

    pairs_together : All (λ (p : ℕ × ℕ). Together p.0 p.1) (pairs_of calls 0 (calls_below calls))
    pairs_together = All-from_get_or (λ (p : ℕ × ℕ). Together p.0 p.1) (pairs_of calls 0 (calls_below calls)) (0, 0) (λ k lt.
        let pairs = pairs_of calls 0 (calls_below calls) in
        let links = context_pairs 0 calls numbers in
        let p = get_or pairs k (0, 0) in
        let a = get_or numbers p.0 0 in
        let b = get_or numbers p.1 0 in
        let at : get_or links k (0, 0) ≡ context_pair numbers p = get_or-map (context_pair numbers) pairs k (0, 0) (0, 0) lt in
        let less : k < length links = omega (arith, lt, length-map pairs (context_pair numbers)) in
        let within = contexts_within calls 0 numbers (length contexts) in_order are.size are.within in
        let low = subst (λ (l : ℕ × ℕ). (l.0 < length contexts) × (l.1 < length contexts)) at (All-get_or (λ (l : ℕ × ℕ). (l.0 < length contexts) × (l.1 < length contexts)) links k (0, 0) less within) in
        let one : is_linked links a ≡ true = list_any_at (λ (l : ℕ × ℕ). eqb l.0 a || eqb l.1 a) links k (0, 0) less (ap (λ (l : ℕ × ℕ). eqb l.0 a || eqb l.1 a) at ∙ or_left (eqb a a) (eqb b a) (eq-eqb a a refl)) in
        let two : is_linked links b ≡ true = list_any_at (λ (l : ℕ × ℕ). eqb l.0 b || eqb l.1 b) links k (0, 0) less (ap (λ (l : ℕ × ℕ). eqb l.0 b || eqb l.1 b) at ∙ or_right (eqb a b) (eqb b b) (eq-eqb b b refl)) in
        let groups = links_join (length contexts) links within in (
          linked_forks a low.0 one,
          linked_forks b low.1 two,
          subst (λ (l : ℕ × ℕ). get_or (groups_of (length contexts) (context_pairs 0 calls numbers)) l.0 0 ≡ get_or (groups_of (length contexts) (context_pairs 0 calls numbers)) l.1 0) at
              (All-get_or (λ (l : ℕ × ℕ). get_or (groups_of (length contexts) (context_pairs 0 calls numbers)) l.0 0 ≡ get_or (groups_of (length contexts) (context_pairs 0 calls numbers)) l.1 0) links k (0, 0) less groups.linked),
        ))

    all_together : All (λ (p : ℕ × ℕ). Together p.0 p.1) (overlaps 0 calls)
    all_together = of_overlaps 0 calls before in_order Together (λ a b t. (t.1, t.0, sym t.2)) (λ a b c t u. (t.0, u.1, t.2 ∙ u.2)) pairs_together

    -- calls of one caller that overlap are forked together
    together_at : (i j c : ℕ) → i < j → get_or (callers_of calls) i None ≡ Some c → get_or (callers_of calls) j None ≡ Some c → start_of calls j < end_of calls i → start_of calls i < end_of calls j → fork_together (strict_grouping calls numbers (length contexts)) i j ≡ true
    together_at i j c lt one two out back =
        let g = strict_grouping calls numbers (length contexts) in
        let meet : overlap calls 0 i j ≡ true = and_from (nat_lt 0 (end_of calls i - start_of calls j)) (nat_lt 0 (end_of calls j - start_of calls i)) (lt-ltb 0 (end_of calls i - start_of calls j) (omega (arith, out))) (lt-ltb 0 (end_of calls j - start_of calls i) (omega (arith, back))) in
        let beside : are_beside 0 calls (i, j) ≡ true = ap (λ (o : Option ℕ). have_one_caller o (get_or (callers_of calls) j None) && overlap calls 0 i j) one ∙ ap (λ (o : Option ℕ). is_number c o && overlap calls 0 i j) two ∙ and_from (eqb c c) (overlap calls 0 i j) (eq-eqb c c refl) meet in
        let t = overlaps_at calls 0 (λ (p : ℕ × ℕ). Together p.0 p.1) all_together j i lt (called_within j c two) beside in
        and_from (forks g i) (forks g j && eqb (group_of g i) (group_of g j)) t.0 (and_from (forks g j) (eqb (group_of g i) (group_of g j)) t.1 (eq-eqb (group_of g i) (group_of g j) t.2))

    apart_at : (i j c : ℕ) → i < j → get_or (callers_of calls) i None ≡ Some c → get_or (callers_of calls) j None ≡ Some c → fork_together (strict_grouping calls numbers (length contexts)) i j ≡ false → end_of calls i ≤ start_of calls j
    apart_at i j c lt one two off = by (cases_lt (start_of calls j) (end_of calls i)) (cases_lt (start_of calls i) (end_of calls j))
      where
        wi : i < length calls
        wi = called_within i c one

        wj : j < length calls
        wj = called_within j c two

        by : (start_of calls j < end_of calls i) ⊎ (end_of calls i ≤ start_of calls j) → (start_of calls i < end_of calls j) ⊎ (end_of calls j ≤ start_of calls i) → end_of calls i ≤ start_of calls j
        by (inr le) other = le
        by (inl out) (inl back) = absurd (true≢false (sym (together_at i j c lt one two out back) ∙ off))
        by (inl out) (inr over) =
            let low = rise i j c lt one two in
            let long : start_of calls j ≤ end_of calls j = omega (arith, start_at j wj, end_at j wj, (nested.ends (number j) (number_within j wj)).0) in
            absurd (no_tie i j c lt one two (let e : start_of calls i ≡ start_of calls j = omega (arith, low, long, over) in e) (omega (arith, low, over)) out)

    pub are_nested : AreNested calls (strict_grouping calls numbers (length contexts))
    are_nested = record {
      ends = λ i lt. omega (arith, start_at i lt, end_at i lt, (nested.ends (number i) (number_within i lt)).0);
      within = λ i c e.
          let lt = called_within i c e in
          let low : c < length calls = omega (arith, lt, caller_before calls before c i e) in
          let inside = nested.within (number i) (number c) (caller_is i c e) in
          (omega (arith, start_at i lt, start_at c low, inside.0), omega (arith, end_at i lt, end_at c low, inside.1));
      rise = λ c low. listed c low (λ i j. start_of calls i ≤ start_of calls j) (λ i j lt one two. rise i j c lt one two);
      apart = λ c low. listed c low (λ i j. fork_together (strict_grouping calls numbers (length contexts)) i j ≡ false → end_of calls i ≤ start_of calls j) (λ i j lt one two off. apart_at i j c lt one two off);
    }

    pub are_own : (i : ℕ) → i < length calls → (start_of calls i ≡ own_start calls i) × (end_of calls i ≡ own_end calls i)
    are_own i lt = (start_at i lt ∙ sym (own_field (λ (s : Span). s.start) i lt), end_at i lt ∙ sym (own_field (λ (s : Span). s.end) i lt))

pub nested_spans_have_nested_calls : NestedSpansHaveNestedCalls
nested_spans_have_nested_calls spans callers asked entries calls h nested before numbers contexts are = (
  are_nested spans callers asked entries calls h nested before numbers contexts are,
  are_own spans callers asked entries calls h nested before numbers contexts are,
)
