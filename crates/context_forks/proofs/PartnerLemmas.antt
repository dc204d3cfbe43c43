-- The call that ends last, and partners.
use Rattle.std.proofs.Common.{◌≡◌, ◌⊎◌, inl, inr, ℕ, zero, suc, ◌+◌, ◌-◌, ◌<◌, ◌≤◌, List, [], ◌∷◌, ◌++◌, All, Bool, true, false, cond, ltb, Option, Some, None, length, get_or, take, filter, refl, sym, ap, ◌∙◌, subst, arith}
use Rattle.std.specs.Prelude.{IfSome}
use Rattle.std.proofs.lemmas.Bool.{cases_order, le-ltb, lt-ltb, ltb-false, ltb-true}
use Rattle.std.proofs.lemmas.List.{get_or_append_left, get_or_push, length-append, length-take-le, take-take, take_more}
use Rattle.std.proofs.lemmas.List.Elements.{All-filter, All-get_or, All-head, All-tail, All-take}
use Rattle.span_calls.specs.declared.call.Call.{Call}
use Rattle.context_forks.specs.Partners.{end_of, last_after, last_to_end, later_of, outlasts, partner, partner_of, start_of}
use Rattle.context_forks.specs.inner.Siblings.{AreLast, AreSiblings, last_with}

module _ (calls : List Call) where
  after_push : (i : ℕ) (xs : List ℕ) (x : ℕ) → last_after calls i (xs ++ x ∷ []) ≡ later_of calls (last_after calls i xs) x
  after_push i [] x = refl
  after_push i (j ∷ xs) x = after_push (later_of calls i j) xs x

  -- the one that ends last, with one more
  pub last_push : (xs : List ℕ) (x : ℕ) → last_to_end calls (xs ++ x ∷ []) ≡ Some (last_with calls (last_to_end calls xs) x)
  last_push [] x = refl
  last_push (i ∷ xs) x = ap (λ (n : ℕ). Some n) (after_push i xs x)

  module _ (P : ℕ → Type 0) where
    pub later_is : (i j : ℕ) → P i → P j → P (later_of calls i j)
    later_is i j p q = by (ltb (end_of calls i) (end_of calls j))
      where
        by : (b : Bool) → P (cond b j i)
        by true = q
        by false = p

    pub last_with_is : (o : Option ℕ) (j : ℕ) → IfSome o P → P j → P (last_with calls o j)
    last_with_is None j h q = q
    last_with_is (Some i) j h q = later_is i j h q

  -- for the first calls the one that ends last of those up to each
  pub record AreLastTo (below : List ℕ) (at : ℕ) (best : Option ℕ) (last : List ℕ) : Type 0 where
    pub size : length last ≡ at
    pub best_is : best ≡ last_to_end calls (take at below)
    pub within : IfSome best (λ b. b < length calls)
    pub own : (k : ℕ) → k < at → last_to_end calls (take (k + 1) below) ≡ Some (get_or last k 0)

  pub last_none : (below : List ℕ) (last : List ℕ) → last ≡ [] → AreLastTo below 0 None last
  last_none below last e = record { size = ap length e; best_is = refl; within = tt; own = λ k lt. absurd (omega (arith, lt)) }

  pub last_more : (below : List ℕ) (at : ℕ) (best : Option ℕ) (last : List ℕ) (next : ℕ) (new : List ℕ) → at < length below → All (λ i. i < length calls) below → AreLastTo below at best last
      → next ≡ last_with calls best (get_or below at 0) → new ≡ last ++ next ∷ [] → AreLastTo below (at + 1) (Some next) new
  last_more below at best last next new lt within h is step = record {
    size = omega (arith, ap length step, length-append last (next ∷ []), h.size);
    best_is = sym here;
    within = subst (λ n. n < length calls) (sym is) (last_with_is (λ n. n < length calls) best (get_or below at 0) h.within (All-get_or (λ i. i < length calls) below at 0 lt within));
    own = λ k less. owns k less (cases_order k at);
  }
    where
      here : last_to_end calls (take (at + 1) below) ≡ Some next
      here = ap (last_to_end calls) (take_more below at 0 lt) ∙ last_push (take at below) (get_or below at 0) ∙ ap (λ (o : Option ℕ). Some (last_with calls o (get_or below at 0))) (sym h.best_is) ∙ ap (λ (n : ℕ). Some n) (sym is)

      owns : (k : ℕ) → k < at + 1 → (k ≡ at) ⊎ ((k < at) ⊎ (at < k)) → last_to_end calls (take (k + 1) below) ≡ Some (get_or new k 0)
      owns k less (inl e) =
          ap (λ n. last_to_end calls (take (n + 1) below)) e ∙ here
          ∙ ap (λ (n : ℕ). Some n) (sym (ap (λ n. get_or new n 0) e ∙ ap (λ (xs : List ℕ). get_or xs at 0) step ∙ get_or_push last next 0 at h.size))
      owns k less (inr (inl low)) = h.own k low ∙ ap (λ (n : ℕ). Some n) (sym (ap (λ (xs : List ℕ). get_or xs k 0) step ∙ get_or_append_left last (next ∷ []) 0 k (omega (arith, low, h.size))))
      owns k less (inr (inr high)) = absurd (omega (arith, high, less))

  pub last_all : (below : List ℕ) (at : ℕ) (best : Option ℕ) (last : List ℕ) → at ≡ length below → AreLastTo below at best last → AreLast calls below last
  last_all below at best last e h = record { size = h.size ∙ e; own = λ k lt. h.own k (omega (arith, lt, e)) }

  module _ (grace : ℕ) where
    -- what outlasts a call outlasts those that start before it
    pub outlasts_earlier : (c i j : ℕ) → start_of calls i ≤ start_of calls j → outlasts calls grace c j ≡ true → outlasts calls grace c i ≡ true
    outlasts_earlier c i j le h = lt-ltb grace (end_of calls c - start_of calls i) (omega (arith, le, ltb-true grace (end_of calls c - start_of calls j) h))

    pub outlasts_later : (c i j : ℕ) → start_of calls i ≤ start_of calls j → outlasts calls grace c i ≡ false → outlasts calls grace c j ≡ false
    outlasts_later c i j le h = le-ltb grace (end_of calls c - start_of calls j) (omega (arith, le, ltb-false grace (end_of calls c - start_of calls i) h))

    -- of earlier calls the first ones up to low are outlasted, and from high on none is
    pub record AreHalves (earlier : List ℕ) (c low high : ℕ) : Type 0 where
      pub order : low ≤ high
      pub size : high ≤ length earlier
      pub first : (k : ℕ) → k < low → outlasts calls grace c (get_or earlier k 0) ≡ true
      pub rest : (k : ℕ) → high ≤ k → k < length earlier → outlasts calls grace c (get_or earlier k 0) ≡ false

    pub halves_begin : (earlier : List ℕ) (c : ℕ) → AreHalves earlier c 0 (length earlier)
    halves_begin earlier c = record { order = omega arith; size = omega arith; first = λ k lt. absurd (omega (arith, lt)); rest = λ k le lt. absurd (omega (arith, le, lt)) }

    module _ (earlier : List ℕ) (c low high middle : ℕ) (h : AreHalves earlier c low high) (siblings : AreSiblings calls earlier) (from : low ≤ middle) (to : middle < high) where
      pub halves_up : outlasts calls grace c (get_or earlier middle 0) ≡ true → AreHalves earlier c (middle + 1) high
      halves_up is = record {
        order = omega (arith, to);
        size = h.size;
        first = λ k lt. firsts k lt (cases_order k middle);
        rest = h.rest;
      }
        where
          firsts : (k : ℕ) → k < middle + 1 → (k ≡ middle) ⊎ ((k < middle) ⊎ (middle < k)) → outlasts calls grace c (get_or earlier k 0) ≡ true
          firsts k lt (inl e) = ap (λ n. outlasts calls grace c (get_or earlier n 0)) e ∙ is
          firsts k lt (inr (inl less)) = outlasts_earlier c (get_or earlier k 0) (get_or earlier middle 0) (siblings.rise k middle 0 less (omega (arith, to, h.size))) is
          firsts k lt (inr (inr more)) = absurd (omega (arith, more, lt))

      pub halves_down : outlasts calls grace c (get_or earlier middle 0) ≡ false → AreHalves earlier c low middle
      halves_down isnt = record {
        order = from;
        size = omega (arith, to, h.size);
        first = h.first;
        rest = λ k le lt. rests k le lt (cases_order k middle);
      }
        where
          rests : (k : ℕ) → middle ≤ k → k < length earlier → (k ≡ middle) ⊎ ((k < middle) ⊎ (middle < k)) → outlasts calls grace c (get_or earlier k 0) ≡ false
          rests k le lt (inl e) = ap (λ n. outlasts calls grace c (get_or earlier n 0)) e ∙ isnt
          rests k le lt (inr (inl less)) = absurd (omega (arith, less, le))
          rests k le lt (inr (inr more)) = outlasts_later c (get_or earlier middle 0) (get_or earlier k 0) (siblings.rise middle k 0 more lt) isnt

    pub halves_meet : (earlier : List ℕ) (c low high : ℕ) → high ≤ low → AreHalves earlier c low high → filter (λ j. outlasts calls grace c j) earlier ≡ take low earlier
    halves_meet earlier c low high met h = filter_first (λ j. outlasts calls grace c j) earlier low h.first (λ k le lt. h.rest k (omega (arith, le, met)) lt)
      where
        filter_first : (p : ℕ → Bool) (xs : List ℕ) (n : ℕ) → ((k : ℕ) → k < n → p (get_or xs k 0) ≡ true) → ((k : ℕ) → n ≤ k → k < length xs → p (get_or xs k 0) ≡ false) → filter p xs ≡ take n xs
        filter_first p [] zero f g = refl
        filter_first p [] (suc n) f g = refl
        filter_first p (x ∷ xs) zero f g = ap (λ b. cond b (x ∷ filter p xs) (filter p xs)) (g 0 (omega arith) (omega arith)) ∙ filter_first p xs zero (λ k lt. absurd (omega (arith, lt))) (λ k le lt. g (suc k) (omega arith) (omega (arith, lt)))
        filter_first p (x ∷ xs) (suc n) f g =
            ap (λ b. cond b (x ∷ filter p xs) (filter p xs)) (f 0 (omega arith)) ∙ ap (λ ys. x ∷ ys) (filter_first p xs n (λ k lt. f (suc k) (omega (arith, lt))) (λ k le lt. g (suc k) (omega (arith, le)) (omega (arith, lt))))

    -- the partner of the call at an index, by how many of the earlier ones it outlasts
    module _ (below last : List ℕ) (index c count : ℕ) (lt : index < length below) (h : AreLast calls below last) (few : count ≤ length (take index below)) (first : filter (λ j. outlasts calls grace c j) (take index below) ≡ take count (take index below)) where
      pub count_within : count ≤ index
      count_within = omega (arith, few, length-take-le index below (omega (arith, lt)))

      outlasted : filter (λ j. outlasts calls grace c j) (take index below) ≡ take count below
      outlasted = first ∙ take-take count index below count_within

      pub no_partner : count ≡ 0 → None ≡ partner calls grace (take index below) c
      no_partner e = sym (ap (λ (xs : List ℕ). partner_of calls grace (last_to_end calls xs) c) (outlasted ∙ ap (λ n. take n below) e))

      pub partner_is : (m : ℕ) → m + 1 ≡ count → partner_of calls grace (Some (get_or last m 0)) c ≡ partner calls grace (take index below) c
      partner_is m e = sym (ap (λ (xs : List ℕ). partner_of calls grace (last_to_end calls xs) c) (outlasted ∙ ap (λ n. take n below) (sym e)) ∙ ap (λ (o : Option ℕ). partner_of calls grace o c) (h.own m (omega (arith, e, count_within, lt))))

-- the last one of a list that is not empty is one of it
module _ (calls : List Call) (P : ℕ → Type 0) where
  pub last_after_is : (i : ℕ) (xs : List ℕ) → P i → All P xs → P (last_after calls i xs)
  last_after_is i [] p h = p
  last_after_is i (j ∷ xs) p h = last_after_is (later_of calls i j) xs (later_is calls P i j p (All-head P j xs h)) (All-tail P j xs h)

  pub last_to_end_is : (xs : List ℕ) → All P xs → IfSome (last_to_end calls xs) P
  last_to_end_is [] h = tt
  last_to_end_is (i ∷ xs) h = last_after_is i xs (All-head P i xs h) (All-tail P i xs h)

  pub partner_of_is : (grace : ℕ) (o : Option ℕ) (i : ℕ) → IfSome o P → IfSome (partner_of calls grace o i) P
  partner_of_is grace None i h = tt
  partner_of_is grace (Some j) i h = by (outlasts calls grace j i)
    where
      by : (b : Bool) → IfSome (cond b (Some j) None) P
      by true = h
      by false = tt

  pub partner_within : (grace : ℕ) (earlier : List ℕ) (i : ℕ) → All P earlier → IfSome (partner calls grace earlier i) P
  partner_within grace earlier i h = partner_of_is grace (last_to_end calls (filter (λ j. outlasts calls grace i j) earlier)) i (last_to_end_is (filter (λ j. outlasts calls grace i j) earlier) (All-filter (λ j. outlasts calls grace i j) P earlier h))

-- the last ones are calls
pub last_within : (calls : List Call) (below last : List ℕ) (k : ℕ) → All (λ i. i < length calls) below → AreLast calls below last → k < length below → get_or last k 0 < length calls
last_within calls below last k within h lt =
    subst (λ (o : Option ℕ). IfSome o (λ n. n < length calls)) (h.own k lt) (last_to_end_is calls (λ i. i < length calls) (take (k + 1) below) (All-take (λ i. i < length calls) (k + 1) below within))
