-- The first trace that figures name is the first that refutes.
use Rattle.std.proofs.Common.{◌≡◌, ◌⊎◌, ◌↔◌, ℕ, zero, suc, ◌+◌, ◌<◌, ◌≤◌, Bool, true, false, cond, ◌&&◌, Some, List, [], ◌∷◌, ◌++◌, length, get_or, slice_get, filter, flat_map, count_by, Contains, All, refl, sym, ap, ◌∙◌, subst, arith, inl, inr, ⊎_elim}
use Rattle.std.proofs.lemmas.Bool.{cases_lt}
use Rattle.std.proofs.lemmas.List.Elements.{filter-append}
use Rattle.std.proofs.lemmas.List.Sums.{length-filter}
use Rattle.std.proofs.lemmas.Option.{same_Some}
use Rattle.trace_types.specs.Parts.{Parts}
use Rattle.trace_types.specs.Refuting.{RefutesBefore, RefutesExclusive}
use Rattle.evidence_rules.specs.Meetings.{AreMeetingFigures, first_trace, is_both, is_early, meeting, meetings_from, meetings_in}
use Rattle.evidence_rules.specs.declared.meeting.Meeting.{Meeting}
use Rattle.evidence_laws.specs.FirstLaws.{FirstBothIsFirst, FirstEarlyIsFirst, IsFirstWith}
use Rattle.evidence_laws.specs.ModelLaws.{TellsSame}
use Rattle.evidence_laws.proofs.HasLemmas.{Has, both_tells, counted_has, early_tells, flat_from, has_counted}

-- ---- the meetings of a trace have its index
module _ {A S N T E : Type 0} (p : Parts A S N T E) (same : N → N → Bool) (a b : N) where
  index_in : (index : ℕ) (trace : A) (m : Meeting) → Contains (meetings_in p same a b index trace) m → m.trace ≡ index
  index_in index trace m c =
      let outer = flat_from (λ (s : S). flat_map (λ (t : S). cond (same (p.name s) a && same (p.name t) b) (meeting p index trace s t ∷ []) []) (p.segments trace)) (p.segments trace) m c in
      let inner = flat_from (λ (t : S). cond (same (p.name outer.0) a && same (p.name t) b) (meeting p index trace outer.0 t ∷ []) []) (p.segments trace) m outer.2 in
      by outer.0 inner.0 (same (p.name outer.0) a && same (p.name inner.0) b) inner.2
    where
      one_is : (x y : Meeting) (k : ℕ) → k < length (x ∷ []) → get_or (x ∷ []) k y ≡ y → x ≡ y
      one_is x y zero l e = e
      one_is x y (suc k) l e = absurd (omega arith)

      by : (s t : S) (q : Bool) → Contains (cond q (meeting p index trace s t ∷ []) []) m → m.trace ≡ index
      by s t true h = sym (ap (λ (x : Meeting). x.trace) (one_is (meeting p index trace s t) m h.0 h.1 h.2))
      by s t false h = absurd (omega (arith, h.1))

  -- ---- the first meeting with a property
  module _ (tells : TellsSame same) (test : Meeting → Bool) (P : A → Type 0) (each : (index : ℕ) (trace : A) → Has test (meetings_in p same a b index trace) ↔ P trace) where
    filtered_in : (xs : List Meeting) (m : Meeting) (k : ℕ) → k < length (filter test xs) → get_or (filter test xs) k m ≡ m → Contains xs m
    filtered_in [] m k l e = absurd (omega arith)
    filtered_in (x ∷ xs) m k l e = by (test x) k l e (λ j h f. filtered_in xs m j h f)
      where
        later : Contains xs m → Contains (x ∷ xs) m
        later c = (suc c.0, omega (arith, c.1), c.2)

        by : (q : Bool) (j : ℕ) → j < length (cond q (x ∷ filter test xs) (filter test xs)) → get_or (cond q (x ∷ filter test xs) (filter test xs)) j m ≡ m
            → ((i : ℕ) → i < length (filter test xs) → get_or (filter test xs) i m ≡ m → Contains xs m) → Contains (x ∷ xs) m
        by true zero l e so = (0, omega arith, e)
        by true (suc j) l e so = later (so j (omega arith) e)
        by false j l e so = later (so j l e)

    first_of : (xs ys : List Meeting) (index : ℕ) → ((m : Meeting) → Contains xs m → m.trace ≡ index) → 0 < length (filter test xs) → first_trace (filter test xs ++ ys) ≡ index
    first_of xs ys index at l = by (filter test xs) l (λ m k h e. filtered_in xs m k h e)
      where
        by : (zs : List Meeting) → 0 < length zs → ((m : Meeting) (k : ℕ) → k < length zs → get_or zs k m ≡ m → Contains xs m) → first_trace (zs ++ ys) ≡ index
        by [] l inside = absurd (omega arith)
        by (z ∷ zs) l inside = at z (inside z 0 (omega arith) refl)

    -- the trace at this index counted from the first, and none before it
    pub first_from : (index : ℕ) (traces : List A) → 0 < length (filter test (meetings_from p same a b index traces))
        → (k : ℕ) × (first_trace (filter test (meetings_from p same a b index traces)) ≡ index + k) × IsFirstWith P traces k
    first_from index [] l = absurd (omega arith)
    first_from index (t ∷ ts) l = ⊎_elim
        (λ (here : 0 < length (filter test (meetings_in p same a b index t))). (
          0,
          ap first_trace joined ∙ first_of (meetings_in p same a b index t) (filter test (meetings_from p same a b (index + 1) ts)) index (index_in index t) here ∙ omega arith,
          record {
            trace = t;
            at = refl;
            has = (each index t).0 (counted_has test (meetings_in p same a b index t) (subst (λ (n : ℕ). 0 < n) (length-filter test (meetings_in p same a b index t)) here));
            first = λ i u h at is. absurd (omega arith);
          },
        ))
        (λ (none : length (filter test (meetings_in p same a b index t)) ≤ 0).
        let gone : filter test (meetings_in p same a b index t) ≡ [] = empty (filter test (meetings_in p same a b index t)) none in
        let rest : filter test (meetings_from p same a b index (t ∷ ts)) ≡ filter test (meetings_from p same a b (index + 1) ts) = joined ∙ ap (λ (l : List Meeting). l ++ filter test (meetings_from p same a b (index + 1) ts)) gone in
        let r = first_from (index + 1) ts (subst (λ (l : List Meeting). 0 < length l) rest l) in (
          suc r.0,
          ap first_trace rest ∙ r.1 ∙ omega arith,
          record {
            trace = r.2.trace;
            at = r.2.at;
            has = r.2.has;
            first = λ i u h at is. before i u h at is none r.2 r.0;
          },
        ))
        (cases_lt 0 (length (filter test (meetings_in p same a b index t))))
      where
        joined : filter test (meetings_from p same a b index (t ∷ ts)) ≡ filter test (meetings_in p same a b index t) ++ filter test (meetings_from p same a b (index + 1) ts)
        joined = filter-append test (meetings_in p same a b index t) (meetings_from p same a b (index + 1) ts)

        empty : (xs : List Meeting) → length xs ≤ 0 → xs ≡ []
        empty [] h = refl
        empty (x ∷ xs) h = absurd (omega arith)

        before : (i : ℕ) (u : A) {k : ℕ} → i < suc k → slice_get (t ∷ ts) i ≡ Some u → P u → length (filter test (meetings_in p same a b index t)) ≤ 0 → IsFirstWith P ts k → (n : ℕ) → ⊥
        before zero u h at is none r n =
            let same_trace : t ≡ u = same_Some t u at in
            let l = has_counted test (meetings_in p same a b index t) ((each index t).1 (subst P (sym same_trace) is)) in
            let e = length-filter test (meetings_in p same a b index t) in
            omega arith
        before (suc i) u h at is none r n = r.first i u (omega arith) at is

pub first_early_is_first : {A S N T E : Type 0} (p : Parts A S N T E) (same : N → N → Bool) → FirstEarlyIsFirst p same
first_early_is_first p same tells traces a b f are l =
    let r = first_from p same a b tells is_early (RefutesBefore p a b) (early_tells p same tells a b) 0 traces (subst (λ (n : ℕ). 0 < n) (are.early ∙ sym (length-filter is_early (meetings_from p same a b 0 traces))) l) in
    let at : r.0 ≡ f.first_early = let e = are.first_early ∙ r.1 in omega arith in
    subst (IsFirstWith (RefutesBefore p a b) traces) at r.2

pub first_both_is_first : {A S N T E : Type 0} (p : Parts A S N T E) (same : N → N → Bool) → FirstBothIsFirst p same
first_both_is_first p same tells traces a b f are l =
    let r = first_from p same a b tells is_both (RefutesExclusive p a b) (both_tells p same tells a b) 0 traces (subst (λ (n : ℕ). 0 < n) (are.both ∙ sym (length-filter is_both (meetings_from p same a b 0 traces))) l) in
    let at : r.0 ≡ f.first_both = let e = are.first_both ∙ r.1 in omega arith in
    subst (IsFirstWith (RefutesExclusive p a b) traces) at r.2
