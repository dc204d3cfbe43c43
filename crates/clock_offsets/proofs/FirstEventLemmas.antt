-- The first event with each text, found event by event by the numbers of the texts.
use Rattle.std.proofs.Common.{◌≡◌, ℕ, ◌+◌, ◌<◌, ◌≤◌, Bool, true, false, cond, eqb, Some, None, Option, is_some, List, ◌∷◌, ◌++◌, [], length, get_or, arith, refl, sym, subst, ap, ◌∙◌, ⊎_elim}
use Rattle.std.specs.Prelude.{slice_get}
use Rattle.std.proofs.lemmas.Bool.{cases_lt, eqb-true, eq-eqb}
use Rattle.std.proofs.lemmas.List.{get_or_append_left, get_or_push, length_push}
use Rattle.std.proofs.lemmas.Option.{same_Some}
use Rattle.trace_types.specs.declared.event.Event.{Event}
use Rattle.clock_offsets.specs.declared.first_events.Field.{Field}
use Rattle.clock_offsets.specs.FirstEvents.{field_at, AreFirstEvents}
use Rattle.clock_offsets.specs.NumberPlaces.{NumberPlace, place_in, places_with}

-- the number is that of the text of the event at k
abbrev pub IsNumberAt : List (List ℕ) → Field → List Event → ℕ → ℕ → Type 0
IsNumberAt texts field events k m = slice_get texts m ≡ Some (field_at field events k)

-- a text has one number
abbrev pub HaveOneNumber : List (List ℕ) → Type 0
HaveOneNumber texts = (i j : ℕ) (text : List ℕ) → slice_get texts i ≡ Some text → slice_get texts j ≡ Some text → i ≡ j

-- the first n events have first events, and the table has the index of the first event of each of their numbers
pub record AreFirstsTo (texts : List (List ℕ)) (field : Field) (events : List Event) (n : ℕ) (firsts : List ℕ) (places : List NumberPlace) : Type 0 where
  pub each : length firsts ≡ n
  pub numbered : (k : ℕ) → k < n → (m : ℕ) × IsNumberAt texts field events k m
  pub known : (k m : ℕ) → k < n → IsNumberAt texts field events k m → place_in places 0 m ≡ Some (get_or firsts k 0)
  pub right : (m p : ℕ) → place_in places 0 m ≡ Some p → (p < n) × IsNumberAt texts field events p m
  pub first : (m p j : ℕ) → place_in places 0 m ≡ Some p → j < p → IsNumberAt texts field events j m → ⊥

-- the event at the end has its number too
numbered_more : (texts : List (List ℕ)) (field : Field) (events : List Event) (n m : ℕ) → ((k : ℕ) → k < n → (i : ℕ) × IsNumberAt texts field events k i) → IsNumberAt texts field events n m → (k : ℕ) → k < n + 1 → (i : ℕ) × IsNumberAt texts field events k i
numbered_more texts field events n m before is k lt = ⊎_elim
    (λ (below : k < n). before k below)
    (λ (above : n ≤ k). let same : n ≡ k = omega arith in (m, subst (λ (i : ℕ). IsNumberAt texts field events i m) same is))
    (cases_lt k n)

-- an event with a number that was seen
firsts_seen : (texts : List (List ℕ)) (field : Field) (events : List Event) (n m : ℕ) (firsts : List ℕ) (places : List NumberPlace) (p : ℕ) → HaveOneNumber texts → AreFirstsTo texts field events n firsts places → IsNumberAt texts field events n m → place_in places 0 m ≡ Some p
    → AreFirstsTo texts field events (n + 1) (firsts ++ p ∷ []) places
firsts_seen texts field events n m firsts places p one a number seen = record {
  each = length_push firsts p ∙ ap (λ k. k + 1) a.each;
  numbered = numbered_more texts field events n m a.numbered number;
  known = λ k i lt is. ⊎_elim
      (λ (below : k < n). a.known k i below is ∙ ap Some (sym (get_or_append_left firsts (p ∷ []) 0 k (at_length k below))))
      (λ (above : n ≤ k).
      let same : k ≡ n = omega arith in
      let number_is : i ≡ m = one i m (field_at field events n) (is ∙ ap (λ j. Some (field_at field events j)) same) number in
      ap (place_in places 0) number_is ∙ (seen ∙ ap Some (sym (get_or_push firsts p 0 k (a.each ∙ sym same)))))
      (cases_lt k n);
  right = λ i q h. let r = a.right i q h in let lt : q < n = r.0 in (omega arith, r.1);
  first = a.first;
}
  where
    at_length : (k : ℕ) → k < n → k < length firsts
    at_length k lt = let e : length firsts ≡ n = a.each in omega arith

-- an event with a number that was not
firsts_new : (texts : List (List ℕ)) (field : Field) (events : List Event) (n m : ℕ) (firsts : List ℕ) (places w : List NumberPlace) → HaveOneNumber texts → AreFirstsTo texts field events n firsts places → IsNumberAt texts field events n m → place_in places 0 m ≡ None
    → ((q : ℕ) → place_in w 0 q ≡ cond (eqb m q) (Some n) (place_in places 0 q)) → AreFirstsTo texts field events (n + 1) (firsts ++ n ∷ []) w
firsts_new texts field events n m firsts places w one a number absent put = record {
  each = length_push firsts n ∙ ap (λ k. k + 1) a.each;
  numbered = numbered_more texts field events n m a.numbered number;
  known = λ k i lt is. ⊎_elim
      (λ (below : k < n). put i ∙ (other k i below is (eqb m i) refl ∙ ap Some (sym (get_or_append_left firsts (n ∷ []) 0 k (at_length k below)))))
      (λ (above : n ≤ k).
      let same : n ≡ k = omega arith in
      let number_is : m ≡ i = one m i (field_at field events k) (number ∙ ap (λ j. Some (field_at field events j)) same) is in
      put i ∙ (ap (λ b. cond b (Some n) (place_in places 0 i)) (eq-eqb m i number_is) ∙ ap Some (sym (get_or_push firsts n 0 k (a.each ∙ same)))))
      (cases_lt k n);
  right = λ i p h. right i p (eqb m i) refl (sym (put i) ∙ h);
  first = λ i p j h lt is. first i p j lt is (eqb m i) refl (sym (put i) ∙ h);
}
  where
    at_length : (k : ℕ) → k < n → k < length firsts
    at_length k lt = let e : length firsts ≡ n = a.each in omega arith

    other : (k i : ℕ) → k < n → IsNumberAt texts field events k i → (b : Bool) → eqb m i ≡ b → cond b (Some n) (place_in places 0 i) ≡ Some (get_or firsts k 0)
    other k i lt is true e =
        let here : place_in places 0 m ≡ place_in places 0 i = ap (place_in places 0) (eqb-true m i e) in
        let there : place_in places 0 i ≡ Some (get_or firsts k 0) = a.known k i lt is in
        cc
    other k i lt is false e = a.known k i lt is

    right : (i p : ℕ) (b : Bool) → eqb m i ≡ b → cond b (Some n) (place_in places 0 i) ≡ Some p → (p < n + 1) × IsNumberAt texts field events p i
    right i p true e h =
        let same : n ≡ p = cc in
        (omega arith, ap (slice_get texts) (sym (eqb-true m i e)) ∙ (number ∙ ap (λ j. Some (field_at field events j)) same))
    right i p false e h = let r = a.right i p h in let lt : p < n = r.0 in (omega arith, r.1)

    first : (i p j : ℕ) → j < p → IsNumberAt texts field events j i → (b : Bool) → eqb m i ≡ b → cond b (Some n) (place_in places 0 i) ≡ Some p → ⊥
    first i p j lt is true e h =
        let n_is : n ≡ p = cc in
        let there : place_in places 0 i ≡ Some (get_or firsts j 0) = a.known j i (omega arith) is in
        let here : place_in places 0 m ≡ place_in places 0 i = ap (place_in places 0) (eqb-true m i e) in
        cc
    first i p j lt is false e h = a.first i p j h lt is

-- an event more, with the index that the table has for its number after it was added
pub firsts_more : (texts : List (List ℕ)) (field : Field) (events : List Event) (n m : ℕ) (firsts : List ℕ) (places w : List NumberPlace) (p : ℕ) → HaveOneNumber texts → AreFirstsTo texts field events n firsts places → IsNumberAt texts field events n m → w ≡ places_with places 0 m n → place_in w 0 m ≡ Some p
    → AreFirstsTo texts field events (n + 1) (firsts ++ p ∷ []) w
firsts_more texts field events n m firsts places w p one a number added now = at (place_in places 0 m) refl
  where
    new : List NumberPlace
    new = record { group = 0; number = m; place = n } ∷ places

    at : (o : Option ℕ) → place_in places 0 m ≡ o → AreFirstsTo texts field events (n + 1) (firsts ++ p ∷ []) w
    at None e =
        let is : w ≡ new = added ∙ ap (λ o. cond (is_some o) places new) e in
        let put : (q : ℕ) → place_in w 0 q ≡ cond (eqb m q) (Some n) (place_in places 0 q) = λ q. ap (λ ps. place_in ps 0 q) is in
        let here : place_in w 0 m ≡ Some n = put m ∙ ap (λ b. cond b (Some n) (place_in places 0 m)) (eq-eqb m m refl) in
        let same : n ≡ p = cc in
        subst (λ (i : ℕ). AreFirstsTo texts field events (n + 1) (firsts ++ i ∷ []) w) same (firsts_new texts field events n m firsts places w one a number e put)
    at (Some j) e =
        let kept : w ≡ places = added ∙ ap (λ o. cond (is_some o) places new) e in
        let seen : place_in places 0 m ≡ Some p = ap (λ ps. place_in ps 0 m) (sym kept) ∙ now in
        rw kept (firsts_seen texts field events n m firsts places p one a number seen)

-- all events have first events
pub firsts_done : (texts : List (List ℕ)) (field : Field) (events : List Event) (n : ℕ) (firsts : List ℕ) (places : List NumberPlace) → AreFirstsTo texts field events n firsts places → n ≡ length events → AreFirstEvents field events firsts
firsts_done texts field events n firsts places a all = record {
  each = a.each ∙ all;
  within = λ k lt. let below : get_or firsts k 0 < n = (found k (omega arith)).0 in omega arith;
  same = λ k lt. same_Some (field_at field events (get_or firsts k 0)) (field_at field events k) (sym (found k (omega arith)).1 ∙ (a.numbered k (omega arith)).1);
  first = λ j k lt before same.
      let m = a.numbered k (omega arith) in
      a.first m.0 (get_or firsts k 0) j (a.known k m.0 (omega arith) m.1) before (m.1 ∙ ap Some (sym same));
  one = λ j k lj lk same.
      let m = a.numbered j (omega arith) in
      let at_j : place_in places 0 m.0 ≡ Some (get_or firsts j 0) = a.known j m.0 (omega arith) m.1 in
      let at_k : place_in places 0 m.0 ≡ Some (get_or firsts k 0) = a.known k m.0 (omega arith) (m.1 ∙ ap Some same) in
      cc;
}
  where
    found : (k : ℕ) → (lt : k < n) → (get_or firsts k 0 < n) × IsNumberAt texts field events (get_or firsts k 0) (a.numbered k lt).0
    found k lt = a.right (a.numbered k lt).0 (get_or firsts k 0) (a.known k (a.numbered k lt).0 lt (a.numbered k lt).1)
