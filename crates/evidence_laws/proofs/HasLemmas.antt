-- Whether some meeting of two names has a property, and what the traces then have.
use Rattle.std.proofs.Common.{◌≡◌, ◌⊎◌, ◌↔◌, ℕ, zero, suc, ◌+◌, ◌<◌, ◌≤◌, ℤ, pos, neg_ℤ, ◌+ℤ◌, ◌-ℤ◌, ◌<ℤ◌, int_lt, Bool, true, false, cond, ◌&&◌, List, [], ◌∷◌, ◌++◌, length, get_or, filter, flat_map, count_by, Contains, Any, refl, sym, ap, ◌∙◌, subst, arith, inl, inr, ⊎_elim}
use Rattle.std.proofs.lemmas.Int.{ints}
use Rattle.std.proofs.lemmas.List.Elements.{Contains-append_cases, Contains-append_left, Contains-append_right}
use Rattle.std.proofs.lemmas.List.Sums.{length-filter}
use Rattle.trace_types.specs.Parts.{Parts}
use Rattle.trace_types.specs.Refuting.{RefutesApart, RefutesBefore, RefutesExclusive, StartsEarly}
use Rattle.evidence_rules.specs.Meetings.{is_both, is_early, is_turned, meeting, meetings_from, meetings_in}
use Rattle.evidence_rules.specs.declared.meeting.Meeting.{Meeting}
use Rattle.evidence_laws.specs.ModelLaws.{TellsSame}

-- ---- truth values
pub and_first : (x y : Bool) → (x && y) ≡ true → x ≡ true
and_first true y e = refl
and_first false y e = e

pub and_second : (x y : Bool) → (x && y) ≡ true → y ≡ true
and_second true y e = e
and_second false y e = absurd (let f : false ≡ true = e in cc)

pub both_true : (x y : Bool) → x ≡ true → y ≡ true → (x && y) ≡ true
both_true true y d e = e
both_true false y d e = d

-- ---- lists that are made of others
one_is : {X : Type 0} (x y : X) (k : ℕ) → k < length (x ∷ []) → get_or (x ∷ []) k y ≡ y → x ≡ y
one_is x y zero l e = e
one_is x y (suc k) l e = absurd (omega arith)

pub flat_from : {X Y : Type 0} (f : X → List Y) (xs : List X) (y : Y) → Contains (flat_map f xs) y → (x : X) × Contains xs x × Contains (f x) y
flat_from f [] y c = absurd (omega (arith, c.1))
flat_from f (x ∷ xs) y c = ⊎_elim
    (λ (h : Contains (f x) y). (x, (0, omega arith, refl), h))
    (λ (h : Contains (flat_map f xs) y). let r = flat_from f xs y h in (r.0, (suc r.1.0, omega (arith, r.1.1), r.1.2), r.2))
    (Contains-append_cases (f x) (flat_map f xs) y c)

flat_to_at : {X Y : Type 0} (f : X → List Y) (xs : List X) (x : X) (y : Y) (k : ℕ) → k < length xs → get_or xs k x ≡ x → Contains (f x) y → Contains (flat_map f xs) y
flat_to_at f [] x y k l e c = absurd (omega arith)
flat_to_at f (z ∷ xs) x y zero l e c = Contains-append_left (f z) (flat_map f xs) y (subst (λ v. Contains (f v) y) (sym e) c)
flat_to_at f (z ∷ xs) x y (suc k) l e c = Contains-append_right (f z) (flat_map f xs) y (flat_to_at f xs x y k (omega arith) e c)

pub flat_to : {X Y : Type 0} (f : X → List Y) (xs : List X) (x : X) (y : Y) → Contains xs x → Contains (f x) y → Contains (flat_map f xs) y
flat_to f xs x y c h = flat_to_at f xs x y c.0 c.1 c.2 h

-- ---- some meeting has a property
abbrev pub Has : (Meeting → Bool) → List Meeting → Type 0
Has test met = (m : Meeting) × Contains met m × (test m ≡ true)

filter_has : (test : Meeting → Bool) (met : List Meeting) → 0 < length (filter test met) → Has test met
filter_has test [] l = absurd (omega arith)
filter_has test (m ∷ met) l = by (test m) refl l (λ h. filter_has test met h)
  where
    by : (b : Bool) → test m ≡ b → 0 < length (cond b (m ∷ filter test met) (filter test met)) → (0 < length (filter test met) → Has test met) → Has test (m ∷ met)
    by true e l so = (m, (0, omega arith, refl), e)
    by false e l so = let r = so l in (r.0, (suc r.1.0, omega (arith, r.1.1), r.1.2), r.2)

has_filter : (test : Meeting → Bool) (met : List Meeting) (m : Meeting) (k : ℕ) → k < length met → get_or met k m ≡ m → test m ≡ true → 0 < length (filter test met)
has_filter test [] m k l e is = absurd (omega arith)
has_filter test (x ∷ met) m zero l e is = subst (λ (b : Bool). 0 < length (cond b (x ∷ filter test met) (filter test met))) (sym (ap test e ∙ is)) (omega arith)
has_filter test (x ∷ met) m (suc k) l e is = by (test x) (has_filter test met m k (omega arith) e is)
  where
    by : (b : Bool) → 0 < length (filter test met) → 0 < length (cond b (x ∷ filter test met) (filter test met))
    by true h = omega arith
    by false h = h

pub counted_has : (test : Meeting → Bool) (met : List Meeting) → 0 < count_by test met → Has test met
counted_has test met l = filter_has test met (subst (λ (n : ℕ). 0 < n) (sym (length-filter test met)) l)

pub has_counted : (test : Meeting → Bool) (met : List Meeting) → Has test met → 0 < count_by test met
has_counted test met h = subst (λ (n : ℕ). 0 < n) (length-filter test met) (has_filter test met h.0 h.1.0 h.1.1 h.1.2 h.2)

-- there is a meeting
pub some_has : (met : List Meeting) → 0 < length met → Has (λ m. true) met
some_has [] l = absurd (omega arith)
some_has (m ∷ met) l = (m, (0, omega arith, refl), refl)

pub has_some : (met : List Meeting) → Has (λ m. true) met → 0 < length met
has_some met h = omega (arith, h.1.1)

-- ---- one trace
module _ {A S N T E : Type 0} (p : Parts A S N T E) (same : N → N → Bool) (tells : TellsSame same) (a b : N) where
  -- two segments of the trace with these names, whose meeting has the property
  abbrev Both : (Meeting → Bool) → ℕ → A → Type 0
  Both test index trace = (s : S) × (t : S) × Contains (p.segments trace) s × Contains (p.segments trace) t × (p.name s ≡ a) × (p.name t ≡ b) × (test (meeting p index trace s t) ≡ true)

  -- where the two are those, their meeting is it
  two_from : (index : ℕ) (trace : A) (s t : S) (m : Meeting) (c : Bool) → (same (p.name s) a && same (p.name t) b) ≡ c → Contains (cond c (meeting p index trace s t ∷ []) []) m → (p.name s ≡ a) × (p.name t ≡ b) × (meeting p index trace s t ≡ m)
  two_from index trace s t m true e h = (
    (tells (p.name s) a).0 (and_first (same (p.name s) a) (same (p.name t) b) e),
    (tells (p.name t) b).0 (and_second (same (p.name s) a) (same (p.name t) b) e),
    one_is (meeting p index trace s t) m h.0 h.1 h.2,
  )
  two_from index trace s t m false e h = absurd (omega (arith, h.1))

  pub in_from : (test : Meeting → Bool) (index : ℕ) (trace : A) → Has test (meetings_in p same a b index trace) → Both test index trace
  in_from test index trace (m, c, is) =
      let outer = flat_from (λ (s : S). flat_map (λ (t : S). cond (same (p.name s) a && same (p.name t) b) (meeting p index trace s t ∷ []) []) (p.segments trace)) (p.segments trace) m c in
      let inner = flat_from (λ (t : S). cond (same (p.name outer.0) a && same (p.name t) b) (meeting p index trace outer.0 t ∷ []) []) (p.segments trace) m outer.2 in
      let is_two = two_from index trace outer.0 inner.0 m (same (p.name outer.0) a && same (p.name inner.0) b) refl inner.2 in
      (outer.0, inner.0, outer.1, inner.1, is_two.0, is_two.1, ap test is_two.2 ∙ is)

  pub in_to : (test : Meeting → Bool) (index : ℕ) (trace : A) → Both test index trace → Has test (meetings_in p same a b index trace)
  in_to test index trace (s, t, cs, ct, ns, nt, is) =
      let named : (same (p.name s) a && same (p.name t) b) ≡ true = both_true (same (p.name s) a) (same (p.name t) b) ((tells (p.name s) a).1 ns) ((tells (p.name t) b).1 nt) in
      let here : Contains (cond (same (p.name s) a && same (p.name t) b) (meeting p index trace s t ∷ []) []) (meeting p index trace s t) = subst (λ (c : Bool). Contains (cond c (meeting p index trace s t ∷ []) []) (meeting p index trace s t)) (sym named) (0, omega arith, refl) in (
        meeting p index trace s t,
        flat_to (λ (x : S). flat_map (λ (y : S). cond (same (p.name x) a && same (p.name y) b) (meeting p index trace x y ∷ []) []) (p.segments trace)) (p.segments trace) s (meeting p index trace s t) cs
            (flat_to (λ (y : S). cond (same (p.name s) a && same (p.name y) b) (meeting p index trace s y ∷ []) []) (p.segments trace) t (meeting p index trace s t) ct here),
        is,
      )

  -- ---- what the trace then refutes
  early_to : (x y : ℤ) (g : ℕ) → int_lt (x -ℤ y) (neg_ℤ (pos g)) ≡ true → (x +ℤ pos g) <ℤ y
  early_to x y g e = grind (arith, ints)

  early_from : (x y : ℤ) (g : ℕ) → (x +ℤ pos g) <ℤ y → int_lt (x -ℤ y) (neg_ℤ (pos g)) ≡ true
  early_from x y g l = grind (arith, ints)

  pub apart_tells : (index : ℕ) (trace : A) → Has (λ m. true) (meetings_in p same a b index trace) ↔ RefutesApart p a b trace
  apart_tells index trace = (
    (λ h. let r = in_from (λ m. true) index trace h in (r.0, r.1, r.2, r.3, r.4, r.5, tt)),
    (λ r. in_to (λ m. true) index trace (r.0, r.1, r.2, r.3, r.4, r.5, refl)),
  )

  pub early_tells : (index : ℕ) (trace : A) → Has is_early (meetings_in p same a b index trace) ↔ RefutesBefore p a b trace
  early_tells index trace = (
    (λ h. let r = in_from is_early index trace h in (r.0, r.1, r.2, r.3, r.4, r.5, early_to (p.start r.1) (p.end r.0) (p.grace trace) r.6)),
    (λ r. in_to is_early index trace (r.0, r.1, r.2, r.3, r.4, r.5, early_from (p.start r.1) (p.end r.0) (p.grace trace) r.6)),
  )

  pub turned_tells : (index : ℕ) (trace : A) → Has is_turned (meetings_in p same a b index trace) ↔ RefutesBefore p b a trace
  turned_tells index trace = (
    (λ h. let r = in_from is_turned index trace h in (r.1, r.0, r.3, r.2, r.5, r.4, early_to (p.start r.0) (p.end r.1) (p.grace trace) r.6)),
    (λ r. in_to is_turned index trace (r.1, r.0, r.3, r.2, r.5, r.4, early_from (p.start r.1) (p.end r.0) (p.grace trace) r.6)),
  )

  pub both_tells : (index : ℕ) (trace : A) → Has is_both (meetings_in p same a b index trace) ↔ RefutesExclusive p a b trace
  both_tells index trace = (
    (λ h. let r = in_from is_both index trace h in
        let m = meeting p index trace r.0 r.1 in
        (r.0, r.1, r.2, r.3, r.4, r.5, (early_to (p.start r.0) (p.end r.1) (p.grace trace) (and_second (is_early m) (is_turned m) r.6), early_to (p.start r.1) (p.end r.0) (p.grace trace) (and_first (is_early m) (is_turned m) r.6)))),
    (λ r. in_to is_both index trace (
      r.0,
      r.1,
      r.2,
      r.3,
      r.4,
      r.5,
      both_true (is_early (meeting p index trace r.0 r.1)) (is_turned (meeting p index trace r.0 r.1)) (early_from (p.start r.1) (p.end r.0) (p.grace trace) r.6.1) (early_from (p.start r.0) (p.end r.1) (p.grace trace) r.6.0),
    )),
  )

  -- ---- many traces
  module _ (test : Meeting → Bool) (P : A → Type 0) (each : (index : ℕ) (trace : A) → Has test (meetings_in p same a b index trace) ↔ P trace) where
    pub any_from : (index : ℕ) (traces : List A) → Has test (meetings_from p same a b index traces) → Any P traces
    any_from index [] h = absurd (omega (arith, h.1.1))
    any_from index (t ∷ ts) (m, c, is) = ⊎_elim
        (λ (here : Contains (meetings_in p same a b index t) m). (0, t, omega arith, refl, (each index t).0 (m, here, is)))
        (λ (later : Contains (meetings_from p same a b (index + 1) ts) m). let r = any_from (index + 1) ts (m, later, is) in (suc r.0, r.1, omega (arith, r.2), r.3, r.4))
        (Contains-append_cases (meetings_in p same a b index t) (meetings_from p same a b (index + 1) ts) m c)

    any_to_at : (index : ℕ) (traces : List A) (k : ℕ) (x : A) → k < length traces → get_or traces k x ≡ x → P x → Has test (meetings_from p same a b index traces)
    any_to_at index [] k x l e is = absurd (omega arith)
    any_to_at index (t ∷ ts) zero x l e is = let r = (each index t).1 (subst P (sym e) is) in (r.0, Contains-append_left (meetings_in p same a b index t) (meetings_from p same a b (index + 1) ts) r.0 r.1, r.2)
    any_to_at index (t ∷ ts) (suc k) x l e is = let r = any_to_at (index + 1) ts k x (omega arith) e is in (r.0, Contains-append_right (meetings_in p same a b index t) (meetings_from p same a b (index + 1) ts) r.0 r.1, r.2)

    pub any_to : (index : ℕ) (traces : List A) → Any P traces → Has test (meetings_from p same a b index traces)
    any_to index traces r = any_to_at index traces r.0 r.1 r.2 r.3 r.4
