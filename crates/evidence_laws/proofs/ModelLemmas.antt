-- The relations that figures tell are those of the model.
use Rattle.std.proofs.Common.{◌≡◌, ◌≢◌, ◌↔◌, ℕ, zero, suc, ◌+◌, ◌<◌, ◌≤◌, Bool, true, false, cond, List, [], ◌∷◌, length, get_or, count_by, Any, All, Contains, refl, sym, ap, ◌∙◌, subst, arith, ⊎_elim}
use Rattle.std.specs.List.{AllZip}
use Rattle.std.proofs.lemmas.Bool.{cases_lt}
use Rattle.std.proofs.lemmas.List.{get_or_default}
use Rattle.std.proofs.lemmas.List.Sums.{sum_by-cons}
use Rattle.trace_types.specs.Parts.{Parts}
use Rattle.trace_types.specs.Pipelines.{RefutesPipe, RefutesUnshared}
use Rattle.trace_types.specs.Refuting.{RefutesApart, RefutesBefore, RefutesExclusive}
use Rattle.trace_types.specs.Surviving.{IsRefuted, Survives}
use Rattle.evidence_rules.specs.Meetings.{AreMeetingFigures, is_both, is_early, is_turned, meetings_from, meetings_in}
use Rattle.evidence_rules.specs.Sharings.{AreVerdicts}
use Rattle.evidence_rules.specs.declared.meeting.Meeting.{Meeting}
use Rattle.evidence_laws.specs.ModelLaws.{ExclusionsAreTold, OrdersAreTold, PipesAreTold, TellsSame}
use Rattle.evidence_laws.proofs.HasLemmas.{Has, any_from, any_to, apart_tells, both_tells, counted_has, early_tells, has_counted, has_some, some_has, turned_tells}

-- no trace has the property exactly where it survives
none_survives : {A : Type 0} (P : A → Type 0) (traces : List A) → (Any P traces → ⊥) → Survives P traces
none_survives P traces none i d l is = none (i, get_or traces i d, l, get_or_default traces i (get_or traces i d) d l, is)

survives_none : {A : Type 0} (P : A → Type 0) (traces : List A) → Survives P traces → Any P traces → ⊥
survives_none P traces all r = all r.0 r.1 r.2 (subst P (sym r.3) r.4)

zero_or : (n : ℕ) → (0 < n → ⊥) → n ≡ 0
zero_or n none = ⊎_elim (λ (l : 0 < n). absurd (none l)) (λ (e : n ≤ 0). omega arith) (cases_lt 0 n)

module _ {A S N T E : Type 0} (p : Parts A S N T E) (same : N → N → Bool) (tells : TellsSame same) (a b : N) (traces : List A) where
  abbrev met : List Meeting
  met = meetings_from p same a b 0 traces

  module _ (test : Meeting → Bool) (P : A → Type 0) (each : (index : ℕ) (trace : A) → Has test (meetings_in p same a b index trace) ↔ P trace) where
    pub some_refuted : 0 < count_by test met → IsRefuted P traces
    some_refuted l = any_from p same tells a b test P each 0 traces (counted_has test met l)

    pub refuted_some : IsRefuted P traces → 0 < count_by test met
    refuted_some r = has_counted test met (any_to p same tells a b test P each 0 traces r)

    pub none_refuted : count_by test met ≡ 0 → Survives P traces
    none_refuted e = none_survives P traces (λ r. let l = refuted_some r in omega arith)

    pub refuted_none : Survives P traces → count_by test met ≡ 0
    refuted_none all = zero_or (count_by test met) (λ l. survives_none P traces all (some_refuted l))

  pub some_together : 0 < length met → IsRefuted (RefutesApart p a b) traces
  some_together l = any_from p same tells a b (λ m. true) (RefutesApart p a b) (apart_tells p same tells a b) 0 traces (some_has met l)

  pub together_some : IsRefuted (RefutesApart p a b) traces → 0 < length met
  together_some r = has_some met (any_to p same tells a b (λ m. true) (RefutesApart p a b) (apart_tells p same tells a b) 0 traces r)

pub orders_told : {A S N T E : Type 0} (p : Parts A S N T E) (same : N → N → Bool) → OrdersAreTold p same
orders_told p same tells traces a b f differ are = (
  (λ h. (
    subst (λ (n : ℕ). 0 < n) (sym are.traces) (together_some p same tells a b traces h.together),
    are.early ∙ refuted_none p same tells a b traces is_early (RefutesBefore p a b) (early_tells p same tells a b) h.survives,
  )),
  (λ h. record {
    differ = differ;
    together = some_together p same tells a b traces (subst (λ (n : ℕ). 0 < n) are.traces h.0);
    survives = none_refuted p same tells a b traces is_early (RefutesBefore p a b) (early_tells p same tells a b) (sym are.early ∙ h.1);
  }),
)

pub exclusions_told : {A S N T E : Type 0} (p : Parts A S N T E) (same : N → N → Bool) → ExclusionsAreTold p same
exclusions_told p same tells cmp traces a b f rises are = (
  (λ h. (
    subst (λ (n : ℕ). 0 < n) (sym are.traces) (together_some p same tells a b traces h.together),
    are.both ∙ refuted_none p same tells a b traces is_both (RefutesExclusive p a b) (both_tells p same tells a b) h.survives,
    subst (λ (n : ℕ). 0 < n) (sym are.early) (refuted_some p same tells a b traces is_early (RefutesBefore p a b) (early_tells p same tells a b) h.not_before),
    subst (λ (n : ℕ). 0 < n) (sym are.turned) (refuted_some p same tells a b traces is_turned (RefutesBefore p b a) (turned_tells p same tells a b) h.not_after),
  )),
  (λ h. record {
    rises = rises;
    together = some_together p same tells a b traces (subst (λ (n : ℕ). 0 < n) are.traces h.0);
    survives = none_refuted p same tells a b traces is_both (RefutesExclusive p a b) (both_tells p same tells a b) (sym are.both ∙ h.1);
    not_before = some_refuted p same tells a b traces is_early (RefutesBefore p a b) (early_tells p same tells a b) (subst (λ (n : ℕ). 0 < n) are.early h.2);
    not_after = some_refuted p same tells a b traces is_turned (RefutesBefore p b a) (turned_tells p same tells a b) (subst (λ (n : ℕ). 0 < n) are.turned h.3);
  }),
)

-- ---- verdicts
abbrev trues : List Bool → ℕ
trues vs = count_by (λ v. v) vs

trues_first : (v : Bool) (vs : List Bool) → trues (v ∷ vs) ≡ cond v 1 0 + trues vs
trues_first v vs = sum_by-cons (λ (w : Bool). cond w 1 0) v vs

pub verdicts_some : {A : Type 0} (P : A → Type 0) (traces : List A) (vs : List Bool) → AreVerdicts P traces vs → 0 < trues vs → IsRefuted P traces
verdicts_some P [] [] z l = absurd (omega arith)
verdicts_some P [] (v ∷ vs) z l = absurd z
verdicts_some P (t ∷ ts) [] z l = absurd z
verdicts_some P (t ∷ ts) (true ∷ vs) z l = (0, t, omega arith, refl, z.0.0 refl)
verdicts_some P (t ∷ ts) (false ∷ vs) z l =
    let f : trues (false ∷ vs) ≡ 0 + trues vs = trues_first false vs in
    let r = verdicts_some P ts vs z.1 (omega arith) in
    (suc r.0, r.1, omega (arith, r.2), r.3, r.4)

-- a true one more
counts_one : (v : Bool) (n m : ℕ) → v ≡ true → m ≡ cond v 1 0 + n → 0 < m
counts_one true n m e f = omega arith
counts_one false n m e f = absurd (let g : false ≡ true = e in cc)

pub some_verdict : {A : Type 0} (P : A → Type 0) (traces : List A) (vs : List Bool) → AreVerdicts P traces vs → (k : ℕ) (x : A) → k < length traces → get_or traces k x ≡ x → P x → 0 < trues vs
some_verdict P [] vs z k x l e is = absurd (omega arith)
some_verdict P (t ∷ ts) [] z k x l e is = absurd z
some_verdict P (t ∷ ts) (v ∷ vs) z zero x l e is =
    counts_one v (trues vs) (trues (v ∷ vs)) (z.0.1 (subst P (sym e) is)) (trues_first v vs)
some_verdict P (t ∷ ts) (v ∷ vs) z (suc k) x l e is =
    let f = trues_first v vs in
    let so = some_verdict P ts vs z.1 k x (omega arith) e is in
    omega arith

pub pipes_told : {A S N T E : Type 0} (p : Parts A S N T E) → PipesAreTold p
pipes_told p traces t u f differ are = (
  (λ h. (
    subst (λ (n : ℕ). 0 < n) (sym are.traces_are) (some_verdict (RefutesUnshared p t u) traces are.shared are.share h.shared.0 h.shared.1 h.shared.2 h.shared.3 h.shared.4),
    are.refuted_are ∙ zero_or (trues are.refuted) (λ l. survives_none (RefutesPipe p t u) traces h.survives (verdicts_some (RefutesPipe p t u) traces are.refuted are.refute l)),
  )),
  (λ h. record {
    differ = differ;
    shared = verdicts_some (RefutesUnshared p t u) traces are.shared are.share (subst (λ (n : ℕ). 0 < n) are.traces_are h.0);
    survives = none_survives (RefutesPipe p t u) traces (λ r. let l = some_verdict (RefutesPipe p t u) traces are.refuted are.refute r.0 r.1 r.2 r.3 r.4 in let e = sym are.refuted_are ∙ h.1 in omega arith);
  }),
)
