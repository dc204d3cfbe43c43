-- The relation of a hypothesis on numbers, and the hypothesis of a relation.
use Rattle.std.proofs.Common.{◌≡◌, ◌≢◌, ◌⊎◌, ℕ, ◌<◌, Bool, true, false, inl, inr, List, Contains, cond, nat_lt, refl, sym, ap, ap₂, ◌∙◌, subst, arith}
use Rattle.std.proofs.lemmas.Bool.{cases_order, le-ltb, lt-ltb}
use Rattle.hypothesis_index.specs.Places.{IsRelation}
use Rattle.hypothesis_index.specs.Refuting.{Refutes}
use Rattle.hypothesis_index.specs.declared.relation.Relation.{Relation}
use Rattle.hypothesis_index.specs.declared.relation.Relation.TheVariants.{Before as BeforeNumbers, Exclusive as ExclusiveNumbers, Apart as ApartNumbers, Pipe as PipeNumbers, Unshared as UnsharedNumbers}
use Rattle.trace_rules.specs.Hypotheses.{Hypothesis, Before, Exclusive, Apart, Pipe, Unshared, IsSame, RefutesHypothesis, exchanged_hypothesis}
use Rattle.trace_types.specs.Parts.{by_number}
use Rattle.trace_types.specs.Pipelines.{HandlesAt, RefutesPipe, RefutesUnshared}
use Rattle.trace_types.specs.declared.named_segment.NamedSegment.{NamedSegment}
use Rattle.trace_types.specs.declared.named_trace.NamedTrace.{NamedTrace}

-- the two numbers, the lesser first
abbrev ordered : (ℕ → ℕ → Relation) → ℕ → ℕ → Relation
ordered C a b = cond (nat_lt a b) (C a b) (C b a)

abbrev pub relation_of : Hypothesis ℕ ℕ → Relation
relation_of (Before a b) = BeforeNumbers a b
relation_of (Exclusive a b) = ordered ExclusiveNumbers a b
relation_of (Apart a b) = ordered ApartNumbers a b
relation_of (Pipe t u) = PipeNumbers t u
relation_of (Unshared t u) = ordered UnsharedNumbers t u

abbrev pub hypothesis_of : Relation → Hypothesis ℕ ℕ
hypothesis_of (BeforeNumbers a b) = Before a b
hypothesis_of (ExclusiveNumbers a b) = Exclusive a b
hypothesis_of (ApartNumbers a b) = Apart a b
hypothesis_of (PipeNumbers t u) = Pipe t u
hypothesis_of (UnsharedNumbers t u) = Unshared t u

-- ---- the relation of a hypothesis that a trace refutes

ordered_by : (P : Relation → Type 0) (C : ℕ → ℕ → Relation) (a b : ℕ) → a ≢ b → (a < b → P (C a b)) → (b < a → P (C b a)) → P (ordered C a b)
ordered_by P C a b other low high = elim (cases_order a b) [
  | inl e ↦ absurd (other e)
  | inr (inl less) ↦ subst (λ (c : Bool). P (cond c (C a b) (C b a))) (sym (lt-ltb a b less)) (low less)
  | inr (inr more) ↦ subst (λ (c : Bool). P (cond c (C a b) (C b a))) (sym (le-ltb a b (omega (arith, more)))) (high more)
]

name_below : (a : ℕ) (s : NamedSegment) → s.name ≡ a → a < 512
name_below a s e = subst (λ (n : ℕ). n < 512) e s.name_below

task_below : (t : ℕ) (s : NamedSegment) → s.task ≡ t → t < 64
task_below t s e = subst (λ (n : ℕ). n < 64) e s.task_below

pipe_below : (t u : ℕ) (trace : NamedTrace) → RefutesPipe by_number t u trace → (t < 64) × (u < 64)
pipe_below t u trace (inl f) = (task_below t f.given f.ends.handles.task, task_below u f.taken f.starts.handles.task)
pipe_below t u trace (inr f) = (task_below t f.in_order.s f.in_order.first.handles.task, task_below u f.turned.s f.turned.first.handles.task)

-- the relation is one, and the trace refutes it
abbrev IsTold : NamedTrace → Relation → Type 0
IsTold trace r = IsRelation r × Refutes r trace

pub told : (h : Hypothesis ℕ ℕ) (trace : NamedTrace) → RefutesHypothesis by_number h trace → IsRelation (relation_of h) × Refutes (relation_of h) trace
told (Before a b) trace h =
    let f = h.1 in ((h.0, name_below a f.0 f.4, name_below b f.1 f.5), f)
told (Exclusive a b) trace h =
    let f = h.1 in
    ordered_by (IsTold trace) ExclusiveNumbers a b h.0
    (λ low. ((low, name_below b f.1 f.5), f))
    (λ high. ((high, name_below a f.0 f.4), (f.1, f.0, f.3, f.2, f.5, f.4, (f.6.1, f.6.0))))
told (Apart a b) trace h =
    let f = h.1 in
    ordered_by (IsTold trace) ApartNumbers a b h.0
    (λ low. ((low, name_below b f.1 f.5), f))
    (λ high. ((high, name_below a f.0 f.4), (f.1, f.0, f.3, f.2, f.5, f.4, tt)))
told (Pipe t u) trace h =
    let below = pipe_below t u trace h.1 in ((h.0, below.0, below.1), h.1)
told (Unshared t u) trace h =
    let f = h.1 in
    ordered_by (IsTold trace) UnsharedNumbers t u h.0
    (λ low. ((low, task_below u f.r f.other.task), f))
    (λ high. ((high, task_below t f.s f.one.task), record { element = f.element; k = f.l; l = f.k; s = f.r; r = f.s; one = f.other; other = f.one }))

-- ---- hypotheses with one relation are one

same_side : (C : ℕ → ℕ → Relation) (h : Hypothesis ℕ ℕ) (a b : ℕ) (c : Bool) → IsSame h (hypothesis_of (C a b)) → IsSame h (hypothesis_of (C b a)) → IsSame h (hypothesis_of (cond c (C a b) (C b a)))
same_side C h a b true p q = p
same_side C h a b false p q = q

same_as : (h : Hypothesis ℕ ℕ) → IsSame h (hypothesis_of (relation_of h))
same_as (Before a b) = inl refl
same_as (Exclusive a b) = same_side ExclusiveNumbers (Exclusive a b) a b (nat_lt a b) (inl refl) (inr refl)
same_as (Apart a b) = same_side ApartNumbers (Apart a b) a b (nat_lt a b) (inl refl) (inr refl)
same_as (Pipe t u) = inl refl
same_as (Unshared t u) = same_side UnsharedNumbers (Unshared t u) t u (nat_lt t u) (inl refl) (inr refl)

exchanged_twice : {N T : Type 0} (h : Hypothesis N T) → exchanged_hypothesis (exchanged_hypothesis h) ≡ h
exchanged_twice (Before a b) = refl
exchanged_twice (Exclusive a b) = refl
exchanged_twice (Apart a b) = refl
exchanged_twice (Pipe t u) = refl
exchanged_twice (Unshared t u) = refl

joined : (h i x : Hypothesis ℕ ℕ) → IsSame h x → IsSame i x → IsSame h i
joined h i x (inl p) (inl q) = inl (p ∙ sym q)
joined h i x (inl p) (inr q) = inr (p ∙ sym (exchanged_twice x) ∙ ap exchanged_hypothesis (sym q))
joined h i x (inr p) (inl q) = inr (p ∙ ap exchanged_hypothesis (sym q))
joined h i x (inr p) (inr q) = inl (p ∙ sym q)

pub one_hypothesis : (h i : Hypothesis ℕ ℕ) → relation_of h ≡ relation_of i → IsSame h i
one_hypothesis h i e = joined h i (hypothesis_of (relation_of i))
    (subst (λ (r : Relation). IsSame h (hypothesis_of r)) e (same_as h)) (same_as i)

-- ---- and the other way round

-- of a relation
pub of_relation : (r : Relation) → IsRelation r → relation_of (hypothesis_of r) ≡ r
of_relation (BeforeNumbers a b) is = refl
of_relation (ExclusiveNumbers a b) is = ap (λ (c : Bool). cond c (ExclusiveNumbers a b) (ExclusiveNumbers b a)) (lt-ltb a b is.0)
of_relation (ApartNumbers a b) is = ap (λ (c : Bool). cond c (ApartNumbers a b) (ApartNumbers b a)) (lt-ltb a b is.0)
of_relation (PipeNumbers t u) is = refl
of_relation (UnsharedNumbers t u) is = ap (λ (c : Bool). cond c (UnsharedNumbers t u) (UnsharedNumbers u t)) (lt-ltb t u is.0)

-- its hypothesis exchanged has the same relation
of_exchanged : (r : Relation) → IsRelation r → relation_of (exchanged_hypothesis (hypothesis_of r)) ≡ r
of_exchanged (BeforeNumbers a b) is = refl
of_exchanged (ExclusiveNumbers a b) is = let less : a < b = is.0 in ap (λ (c : Bool). cond c (ExclusiveNumbers b a) (ExclusiveNumbers a b)) (le-ltb b a (omega arith))
of_exchanged (ApartNumbers a b) is = let less : a < b = is.0 in ap (λ (c : Bool). cond c (ApartNumbers b a) (ApartNumbers a b)) (le-ltb b a (omega arith))
of_exchanged (PipeNumbers t u) is = refl
of_exchanged (UnsharedNumbers t u) is = let less : t < u = is.0 in ap (λ (c : Bool). cond c (UnsharedNumbers u t) (UnsharedNumbers t u)) (le-ltb u t (omega arith))

-- so hypotheses of relations that are one are equal
pub equal_hypotheses : (r s : Relation) → IsRelation r → IsRelation s → IsSame (hypothesis_of r) (hypothesis_of s) → hypothesis_of r ≡ hypothesis_of s
equal_hypotheses r s isr iss (inl e) = e
equal_hypotheses r s isr iss (inr e) =
    ap hypothesis_of (sym (of_relation r isr) ∙ ap relation_of e ∙ of_exchanged s iss)

lower : (m n : ℕ) → m < n → m ≢ n
lower m n l e = omega (arith, l, e)

pub refutes_hypothesis : (r : Relation) (trace : NamedTrace) → IsRelation r → Refutes r trace → RefutesHypothesis by_number (hypothesis_of r) trace
refutes_hypothesis (BeforeNumbers a b) trace is h = (is.0, h)
refutes_hypothesis (ExclusiveNumbers a b) trace is h = (lower a b is.0, h)
refutes_hypothesis (ApartNumbers a b) trace is h = (lower a b is.0, h)
refutes_hypothesis (PipeNumbers t u) trace is h = (is.0, h)
refutes_hypothesis (UnsharedNumbers t u) trace is h = (lower t u is.0, h)
