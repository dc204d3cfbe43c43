-- Two segments overlap where each starts before the other ends.
use Rattle.std.proofs.Common.{◌≡◌, ℕ, ◌<◌, ◌↔◌, List, get_or, sym, ap, ◌∙◌, subst, ⊎_elim}
use Rattle.std.proofs.lemmas.Bool.{cases_order}
use Rattle.std.proofs.lemmas.List.{get_or_default}
use Rattle.std.specs.List.{Contains}
use Rattle.trace_types.specs.Parts.{Parts}
use Rattle.trace_types.specs.Pipelines.{RefutesUnshared}
use Rattle.trace_types.specs.Refuting.{StartsEarly, RefutesBefore, RefutesExclusive, RefutesApart}
use Rattle.trace_types.specs.SegmentLists.{NamesDiffer}
use Rattle.trace_types.specs.Surviving.{Survives}

-- where names differ, there is one segment of a name
pub one_of_name : {S N : Type 0} (name : S → N) (xs : List S) → NamesDiffer name xs → (s t : S) → Contains xs s → Contains xs t → name s ≡ name t → s ≡ t
one_of_name {S} name xs differ s t c d e =
    let es : get_or xs c.0 s ≡ s = c.2 in
    let et : get_or xs d.0 s ≡ t = get_or_default xs d.0 s t d.1 ∙ d.2 in
    let same : name (get_or xs c.0 s) ≡ name (get_or xs d.0 s) = ap name es ∙ e ∙ sym (ap name et) in
    ⊎_elim
    (λ (h : c.0 ≡ d.0). sym es ∙ ap (λ (k : ℕ). get_or xs k s) h ∙ et)
    (⊎_elim (λ (h : c.0 < d.0). absurd (differ c.0 d.0 s h d.1 same)) (λ (h : d.0 < c.0). absurd (differ d.0 c.0 s h c.1 (sym same))))
    (cases_order c.0 d.0)

module _ {A S N T E : Type 0} (p : Parts A S N T E) (a b : N) where
  pub both_orders : (trace : A) → NamesDiffer p.name (p.segments trace) → RefutesExclusive p a b trace ↔ (RefutesBefore p a b trace × RefutesBefore p b a trace)
  both_orders trace differ = (
    (λ r. ((r.0, r.1, r.2, r.3, r.4, r.5, r.6.1), (r.1, r.0, r.3, r.2, r.5, r.4, r.6.0))),
    (λ both.
        let r = both.0 in
        let q = both.1 in
        let es : q.1 ≡ r.0 = one_of_name p.name (p.segments trace) differ q.1 r.0 q.3 r.2 (q.5 ∙ sym r.4) in
        let et : q.0 ≡ r.1 = one_of_name p.name (p.segments trace) differ q.0 r.1 q.2 r.3 (q.4 ∙ sym r.5) in
        let early : StartsEarly p trace r.0 r.1 = subst (λ (v : S). StartsEarly p trace r.0 v) et (subst (λ (v : S). StartsEarly p trace v q.0) es q.6) in
        (r.0, r.1, r.2, r.3, r.4, r.5, (early, r.6))),
  )

  pub before_keeps_exclusive : (traces : List A) → Survives (RefutesBefore p a b) traces → Survives (RefutesExclusive p a b) traces
  before_keeps_exclusive traces survives k d lt r = survives k d lt (r.0, r.1, r.2, r.3, r.4, r.5, r.6.1)

-- the two segments change places
pub exclusive_turned : {A S N T E : Type 0} (p : Parts A S N T E) (a b : N) (trace : A) → RefutesExclusive p a b trace → RefutesExclusive p b a trace
exclusive_turned p a b trace r = (r.1, r.0, r.3, r.2, r.5, r.4, (r.6.1, r.6.0))

pub apart_turned : {A S N T E : Type 0} (p : Parts A S N T E) (a b : N) (trace : A) → RefutesApart p a b trace → RefutesApart p b a trace
apart_turned p a b trace r = (r.1, r.0, r.3, r.2, r.5, r.4, r.6)

pub unshared_turned : {A S N T E : Type 0} (p : Parts A S N T E) (t u : T) (trace : A) → RefutesUnshared p t u trace → RefutesUnshared p u t trace
unshared_turned p t u trace r = record { element = r.element; k = r.l; l = r.k; s = r.r; r = r.s; one = r.other; other = r.one }
