-- Contexts of calls.
use Rattle.std.proofs.Common.{◌≡◌, ◌⊎◌, inl, inr, ℕ, zero, suc, ◌+◌, ◌<◌, ◌≤◌, List, [], ◌∷◌, ◌++◌, All, Bool, true, false, eq-eqb, Option, Some, None, length, get_or, map, take, slice_get, refl, sym, ap, ◌∙◌, subst, arith, append_assoc, append-nil}
use Rattle.std.specs.List.{count_by, range_with_len}
use Rattle.std.specs.Option.{option_and_then}
use Rattle.std.specs.Prelude.{nat_eq}
use Rattle.std.specs.Option.{option_eq}
use Rattle.std.proofs.lemmas.Bool.{cases_order}
use Rattle.std.proofs.lemmas.List.{get_or-map, length-map}
use Rattle.std.proofs.lemmas.List.Elements.{All-filter, All-from_get_or, All-get_or, All-map, All-nil, All-weaker, filter_passes}
use Rattle.std.proofs.lemmas.List.Sums.{count_by_more_no, count_by_more_yes}
use Rattle.std.proofs.lemmas.Option.{get_or_from_slice_get, slice_get-get_or, slice_get_within}
use Rattle.std.proofs.lemmas.Slice.Eq.{bytes_eq-Decides}
use Rattle.call_trees.specs.Below.{below_one, is_number}
use Rattle.call_trees.proofs.GroupLemmas.{group_at, groups_length}
use Rattle.call_trees.specs.Ordinals.{ordinals_after, ordinals_of}
use Rattle.span_requests.specs.CallerNumbers.{number_above}
use Rattle.span_calls.specs.Calls.{AreBefore}
use Rattle.span_calls.specs.declared.call.Call.{Call}
use Rattle.span_calls.proofs.UnderLemmas.{is_some_number, some_is, some_none}
use Rattle.call_contexts.specs.Contexts.{AreContexts, Frame, Like, above_by, frame_at, like_eq, like_of, ordinal_by, ordinals_among}
use Rattle.context_forks.specs.Forks.{callers_of, calls_below, context_pair, context_pairs}
use Rattle.context_forks.specs.Partners.{pairs_after, pairs_of}
use Rattle.context_forks.proofs.PairLemmas.{BothAre, after_are, lists_are}
use Rattle.context_forks.proofs.SiblingLemmas.{numbers_within}
use Rattle.linked_groups.specs.Groups.{groups_of}
use Rattle.linked_groups.proofs.GroupLemmas.{links_join}
use Rattle.call_laws.specs.ContextLaws.{ContextsAreOfOneCall, GroupsHaveOneAbove}

-- ---- ordinals of alike elements differ

module _ {X : Type 0} (like : X → X → Bool) where
  ordinal_at : (before xs : List X) (i : ℕ) (d : X) → i < length xs → get_or (ordinals_after like before xs) i 0 ≡ count_by (like (get_or xs i d)) (before ++ take i xs) + 1
  ordinal_at before [] i d lt = absurd (omega (arith, lt))
  ordinal_at before (x ∷ xs) zero d lt = ap (λ (ys : List X). count_by (like x) ys + 1) (sym (append-nil before))
  ordinal_at before (x ∷ xs) (suc i) d lt = ordinal_at (before ++ x ∷ []) xs i d (omega (arith, lt)) ∙ ap (λ (ys : List X). count_by (like (get_or xs i d)) ys + 1) (append_assoc before (x ∷ []) (take i xs))

  counts_grow : (p : X → Bool) (xs : List X) (d : X) (i j : ℕ) → i ≤ j → j ≤ length xs → count_by p (take i xs) ≤ count_by p (take j xs)
  counts_grow p xs d i zero le low = let e : i ≡ 0 = omega (arith, le) in omega (arith, ap (λ k. count_by p (take k xs)) e)
  counts_grow p xs d i (suc j) le low = by (cases_order i (suc j)) (λ small. counts_grow p xs d i j small (omega (arith, low)))
    where
      step : (b : Bool) → p (get_or xs j d) ≡ b → count_by p (take j xs) ≤ count_by p (take (j + 1) xs)
      step true e = omega (arith, count_by_more_yes p xs j d (omega (arith, low)) e)
      step false e = omega (arith, count_by_more_no p xs j d (omega (arith, low)) e)

      next : count_by p (take (j + 1) xs) ≡ count_by p (take (suc j) xs)
      next = ap (λ k. count_by p (take k xs)) (let e : j + 1 ≡ suc j = omega arith in e)

      by : (i ≡ suc j) ⊎ ((i < suc j) ⊎ (suc j < i)) → (i ≤ j → count_by p (take i xs) ≤ count_by p (take j xs)) → count_by p (take i xs) ≤ count_by p (take (suc j) xs)
      by (inl e) before = omega (arith, ap (λ k. count_by p (take k xs)) e)
      by (inr (inl lt)) before = omega (arith, before (omega (arith, lt)), step (p (get_or xs j d)) refl, next)
      by (inr (inr gt)) before = absurd (omega (arith, gt, le))

  -- of two alike elements the first has the lower ordinal
  pub ordinals_rise : (xs : List X) (d : X) (i j : ℕ) → i < j → j < length xs → get_or xs i d ≡ get_or xs j d → like (get_or xs i d) (get_or xs i d) ≡ true → get_or (ordinals_of like xs) i 0 < get_or (ordinals_of like xs) j 0
  ordinals_rise xs d i j lt low same own =
      let a = ordinal_at [] xs i d (omega (arith, lt, low)) in
      let b = ordinal_at [] xs j d low in
      let p = like (get_or xs i d) in
      let c = count_by_more_yes p xs i d (omega (arith, lt, low)) own in
      let e = counts_grow p xs d (i + 1) j (omega (arith, lt)) (omega (arith, low)) in
      omega (arith, a, b, c, e, ap (λ (x : X). count_by (like x) (take j xs)) same)

option_own : (a : Option ℕ) → option_eq nat_eq a a ≡ true
option_own None = refl
option_own (Some a) = eq-eqb a a refl

like_own : (l : Like) → like_eq l l ≡ true
like_own l = rw (option_own l.caller, (bytes_eq-Decides l.service l.service).1 refl, (bytes_eq-Decides l.name l.name).1 refl) refl

-- ---- two calls of one context

module _ (calls : List Call) (numbers : List ℕ) (contexts : List Frame) (before : AreBefore calls) (h : AreContexts calls numbers contexts) where
  caller_at : (i : ℕ) (d : Call) → i < length calls → get_or (callers_of calls) i None ≡ (get_or calls i d).caller
  caller_at i d lt = get_or-map (λ (c : Call). c.caller) calls i d None lt

  frames_same : (i j : ℕ) (d : Call) → i < length calls → j < length calls → get_or numbers i 0 ≡ get_or numbers j 0
      → frame_at numbers (get_or (ordinals_among calls) i 0) (get_or calls i d) ≡ frame_at numbers (get_or (ordinals_among calls) j 0) (get_or calls j d)
  frames_same i j d lt less same = some_frame (sym (h.own i (get_or calls i d) (slice_get-get_or calls i d lt)) ∙ ap (slice_get contexts) same ∙ h.own j (get_or calls j d) (slice_get-get_or calls j d less))
    where
      some_frame : {x y : Frame} → Some x ≡ Some y → x ≡ y
      some_frame e = cc

  likes_differ : (i j : ℕ) (d : Call) → i < length calls → j < length calls → like_of (get_or calls i d) ≡ like_of (get_or calls j d) → get_or (ordinals_among calls) i 0 ≡ get_or (ordinals_among calls) j 0 → i ≡ j
  likes_differ i j d lt less same own = by (cases_order i j)
    where
      at : (k : ℕ) → k < length calls → get_or (map like_of calls) k (like_of d) ≡ like_of (get_or calls k d)
      at k low = get_or-map like_of calls k d (like_of d) low

      size : length (map like_of calls) ≡ length calls
      size = length-map calls like_of

      by : (i ≡ j) ⊎ ((i < j) ⊎ (j < i)) → i ≡ j
      by (inl e) = e
      by (inr (inl low)) = absurd (omega (arith, ordinals_rise like_eq (map like_of calls) (like_of d) i j low (omega (arith, less, size)) (at i lt ∙ same ∙ sym (at j less)) (like_own (get_or (map like_of calls) i (like_of d))), own))
      by (inr (inr high)) = absurd (omega (arith, ordinals_rise like_eq (map like_of calls) (like_of d) j i high (omega (arith, lt, size)) (at j less ∙ sym same ∙ sym (at i lt)) (like_own (get_or (map like_of calls) j (like_of d))), own))

  one_call_at : (d : Call) (k l i j entry : ℕ) → i < length calls → j < length calls → number_above (callers_of calls) k i ≡ Some entry → number_above (callers_of calls) l j ≡ Some entry
      → get_or (callers_of calls) entry None ≡ None → get_or numbers i 0 ≡ get_or numbers j 0 → i ≡ j
  one_call_at d zero zero i j entry lt less up also first same = some_is i entry up ∙ sym (some_is j entry also)
  one_call_at d zero (suc l) i j entry lt less up also first same = by (get_or (callers_of calls) j None) refl also
    where
      above : above_by numbers (get_or (callers_of calls) i None) ≡ above_by numbers (get_or (callers_of calls) j None)
      above = ap (above_by numbers) (caller_at i d lt) ∙ ap (λ (f : Frame). f.above) (frames_same i j d lt less same) ∙ ap (above_by numbers) (sym (caller_at j d less))

      none : get_or (callers_of calls) i None ≡ None
      none = ap (λ k. get_or (callers_of calls) k None) (some_is i entry up) ∙ first

      by : (o : Option ℕ) → get_or (callers_of calls) j None ≡ o → option_and_then (number_above (callers_of calls) l) o ≡ Some entry → i ≡ j
      by None e u = absurd (some_none entry (sym u))
      by (Some b) e u = absurd (some_none (get_or numbers b 0) (sym (ap (above_by numbers) e) ∙ sym above ∙ ap (above_by numbers) none))
  one_call_at d (suc k) zero i j entry lt less up also first same = by (get_or (callers_of calls) i None) refl up
    where
      above : above_by numbers (get_or (callers_of calls) i None) ≡ above_by numbers (get_or (callers_of calls) j None)
      above = ap (above_by numbers) (caller_at i d lt) ∙ ap (λ (f : Frame). f.above) (frames_same i j d lt less same) ∙ ap (above_by numbers) (sym (caller_at j d less))

      none : get_or (callers_of calls) j None ≡ None
      none = ap (λ n. get_or (callers_of calls) n None) (some_is j entry also) ∙ first

      by : (o : Option ℕ) → get_or (callers_of calls) i None ≡ o → option_and_then (number_above (callers_of calls) k) o ≡ Some entry → i ≡ j
      by None e u = absurd (some_none entry (sym u))
      by (Some a) e u = absurd (some_none (get_or numbers a 0) (sym (ap (above_by numbers) e) ∙ above ∙ ap (above_by numbers) none))
  one_call_at d (suc k) (suc l) i j entry lt less up also first same =
      by (get_or (callers_of calls) i None) (get_or (callers_of calls) j None) refl refl up also (λ a b low high one two q. one_call_at d k l a b entry low high one two first q)
    where
      frames : frame_at numbers (get_or (ordinals_among calls) i 0) (get_or calls i d) ≡ frame_at numbers (get_or (ordinals_among calls) j 0) (get_or calls j d)
      frames = frames_same i j d lt less same

      above : above_by numbers (get_or (callers_of calls) i None) ≡ above_by numbers (get_or (callers_of calls) j None)
      above = ap (above_by numbers) (caller_at i d lt) ∙ ap (λ (f : Frame). f.above) (frames_same i j d lt less same) ∙ ap (above_by numbers) (sym (caller_at j d less))

      by : (o p : Option ℕ) → get_or (callers_of calls) i None ≡ o → get_or (callers_of calls) j None ≡ p → option_and_then (number_above (callers_of calls) k) o ≡ Some entry → option_and_then (number_above (callers_of calls) l) p ≡ Some entry
          → ((a b : ℕ) → a < length calls → b < length calls → number_above (callers_of calls) k a ≡ Some entry → number_above (callers_of calls) l b ≡ Some entry → get_or numbers a 0 ≡ get_or numbers b 0 → a ≡ b) → i ≡ j
      by None p e q u v rest = absurd (some_none entry (sym u))
      by (Some a) None e q u v rest = absurd (some_none entry (sym v))
      by (Some a) (Some b) e q u v rest =
          let one : (get_or calls i d).caller ≡ Some a = sym (caller_at i d lt) ∙ e in
          let two : (get_or calls j d).caller ≡ Some b = sym (caller_at j d less) ∙ q in
          let a_low : a < length calls = omega (arith, before i (get_or calls i d) a (slice_get-get_or calls i d lt) one, lt) in
          let b_low : b < length calls = omega (arith, before j (get_or calls j d) b (slice_get-get_or calls j d less) two, less) in
          let numbered : get_or numbers a 0 ≡ get_or numbers b 0 = some_is (get_or numbers a 0) (get_or numbers b 0) (sym (ap (above_by numbers) e) ∙ above ∙ ap (above_by numbers) q) in
          let callers : (get_or calls i d).caller ≡ (get_or calls j d).caller = one ∙ ap (λ (n : ℕ). Some n) (rest a b a_low b_low u v numbered) ∙ sym two in
          let services : (get_or calls i d).span.now.service ≡ (get_or calls j d).span.now.service = ap (λ (f : Frame). f.service) frames in
          let names : (get_or calls i d).span.now.name ≡ (get_or calls j d).span.now.name = ap (λ (f : Frame). f.name) frames in
          let ordinals : get_or (ordinals_among calls) i 0 ≡ get_or (ordinals_among calls) j 0 =
          sym (ap (λ (o : Option ℕ). ordinal_by o (get_or (ordinals_among calls) i 0)) one) ∙ ap (λ (f : Frame). f.ordinal) frames ∙ ap (λ (o : Option ℕ). ordinal_by o (get_or (ordinals_among calls) j 0)) two in
          likes_differ i j d lt less (λ t. record { caller = callers t; service = services t; name = names t }) ordinals

pub one_call : ContextsAreOfOneCall
one_call calls numbers contexts before h i j k l entry lt less up also first same = by calls refl
  where
    by : (xs : List Call) → calls ≡ xs → i ≡ j
    by [] e = absurd (omega (arith, lt, ap length e))
    by (d ∷ xs) e = one_call_at calls numbers contexts before h d k l i j entry lt less up also first same

-- ---- groups have one context above

code : Option ℕ → ℕ
code None = 0
code (Some a) = a + 1

code_means : (o p : Option ℕ) → code o ≡ code p → o ≡ p
unfolding code
code_means None None e = refl
code_means None (Some b) e = absurd (omega (arith, e))
code_means (Some a) None e = absurd (omega (arith, e))
code_means (Some a) (Some b) e = ap (λ (n : ℕ). Some n) (let q : a ≡ b = omega (arith, e) in q)

module _ (grace : ℕ) (calls : List Call) (numbers : List ℕ) (contexts : List Frame) (before : AreBefore calls) (h : AreContexts calls numbers contexts) where
  -- the context above one
  above_at : ℕ → Option ℕ
  above_at x = get_or (map (λ (f : Frame). f.above) contexts) x None

  above_is : (x : ℕ) (f : Frame) → slice_get contexts x ≡ Some f → above_at x ≡ f.above
  unfolding above_at
  above_is x f there = get_or-map (λ (g : Frame). g.above) contexts x f None (slice_get_within contexts x f there) ∙ ap (λ (g : Frame). g.above) (get_or_from_slice_get contexts x f f there)

  -- a call that this one makes
  abbrev IsCalledBy : ℕ → ℕ → Type 0
  IsCalledBy p i = (i < length calls) × (get_or (callers_of calls) i None ≡ Some p)

  above_called : (p i : ℕ) → IsCalledBy p i → above_at (get_or numbers i 0) ≡ Some (get_or numbers p 0)
  above_called p i k = by calls refl
    where
      by : (xs : List Call) → calls ≡ xs → above_at (get_or numbers i 0) ≡ Some (get_or numbers p 0)
      by [] e = absurd (omega (arith, k.0, ap length e))
      by (d ∷ xs) e =
          above_is (get_or numbers i 0) (frame_at numbers (get_or (ordinals_among calls) i 0) (get_or calls i d)) (h.own i (get_or calls i d) (slice_get-get_or calls i d k.0))
          ∙ ap (above_by numbers) (sym (get_or-map (λ (c : Call). c.caller) calls i d None k.0) ∙ k.1)

  -- those below a call are called by it
  called_below : (k : ℕ) → k < length (calls_below calls) → All (IsCalledBy k) (get_or (calls_below calls) k [])
  called_below k lt =
      let less : k < length (callers_of calls) = omega (arith, lt, groups_length (callers_of calls) (range_with_len 0 (length calls))) in
      subst (All (IsCalledBy k)) (sym (group_at (callers_of calls) (range_with_len 0 (length calls)) k [] less)) called
    where
      called : All (IsCalledBy k) (below_one (callers_of calls) (range_with_len 0 (length calls)) k)
      called = All-from_get_or (IsCalledBy k) (below_one (callers_of calls) (range_with_len 0 (length calls)) k) 0 (λ i low. (
        All-get_or (λ j. j < length calls) (below_one (callers_of calls) (range_with_len 0 (length calls)) k) i 0 low (All-filter (λ j. is_number k (get_or (callers_of calls) j None)) (λ j. j < length calls) (range_with_len 0 (length calls)) (numbers_within (length calls))),
        is_some_number k (get_or (callers_of calls) (get_or (below_one (callers_of calls) (range_with_len 0 (length calls)) k) i 0) None)
            (All-get_or (λ j. is_number k (get_or (callers_of calls) j None) ≡ true) (below_one (callers_of calls) (range_with_len 0 (length calls)) k) i 0 low (filter_passes (λ j. is_number k (get_or (callers_of calls) j None)) (range_with_len 0 (length calls)))),
      ))

  -- what holds of two calls of one caller holds of linked contexts
  linked_all : (T : (ℕ × ℕ) → Type 0) → ((k i j : ℕ) → IsCalledBy k i → IsCalledBy k j → T (get_or numbers i 0, get_or numbers j 0)) → All T (context_pairs grace calls numbers)
  linked_all T f = All-map T (context_pair numbers) (pairs_of calls grace (calls_below calls))
      (lists_are calls grace (λ (p : ℕ × ℕ). T (context_pair numbers p)) (calls_below calls) (All-from_get_or (λ (xs : List ℕ). All (λ (p : ℕ × ℕ). T (context_pair numbers p)) (pairs_after calls grace [] xs)) (calls_below calls) [] (λ k lt.
      All-weaker (BothAre (IsCalledBy k)) (λ (p : ℕ × ℕ). T (context_pair numbers p)) (λ (p : ℕ × ℕ) (q : BothAre (IsCalledBy k) p). f k p.0 p.1 q.0 q.1) (pairs_after calls grace [] (get_or (calls_below calls) k []))
      (after_are calls grace (IsCalledBy k) [] (get_or (calls_below calls) k []) (All-nil (IsCalledBy k)) (called_below k lt)))))

  pub above_same : (x y : ℕ) (f g : Frame) → slice_get contexts x ≡ Some f → slice_get contexts y ≡ Some g
      → get_or (groups_of (length contexts) (context_pairs grace calls numbers)) x 0 ≡ get_or (groups_of (length contexts) (context_pairs grace calls numbers)) y 0 → f.above ≡ g.above
  above_same x y f g there here same =
      let linked = linked_all (λ (l : ℕ × ℕ). code (above_at l.0) ≡ code (above_at l.1)) (λ k i j one two. ap code (above_called k i one ∙ sym (above_called k j two))) in
      let low = linked_all (λ (l : ℕ × ℕ). (l.0 < length contexts) × (l.1 < length contexts)) (λ k i j one two. (
        All-get_or (λ n. n < length contexts) numbers i 0 (omega (arith, one.0, h.size)) h.within,
        All-get_or (λ n. n < length contexts) numbers j 0 (omega (arith, two.0, h.size)) h.within,
      )) in
      let groups = links_join (length contexts) (context_pairs grace calls numbers) low in
      sym (above_is x f there) ∙ code_means (above_at x) (above_at y) (groups.alone (λ n. code (above_at n)) linked x y (slice_get_within contexts x f there) (slice_get_within contexts y g here) same) ∙ above_is y g here

pub one_context_above : GroupsHaveOneAbove
one_context_above grace calls numbers contexts before h x y f g there here same = above_same grace calls numbers contexts before h x y f g there here same
