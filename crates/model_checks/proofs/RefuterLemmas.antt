-- What the two segments of two names refute.
use Rattle.std.proofs.Common.{◌≡◌, ◌≢◌, ◌↔◌, ℕ, ◌+◌, ◌<◌, Bool, true, false, ◌&&◌, ◌||◌, List, length, get_or, take, sym, ap, ◌∙◌, subst, ⊎_elim, All}
use Rattle.std.specs.List.{Any, Contains}
use Rattle.std.proofs.lemmas.Bool.{cases_order, and_parts, and_from, or_cases, or_left, or_right, false≢true}
use Rattle.std.proofs.lemmas.List.{get_or_default}
use Rattle.std.proofs.lemmas.List.Elements.{All-contains}
use Rattle.trace_types.specs.declared.segment.Segment.{Segment}
use Rattle.trace_types.specs.declared.trace.Trace.{Trace}
use Rattle.trace_types.specs.Parts.{by_text}
use Rattle.trace_types.specs.Refuting.{HasBoth, StartsEarly}
use Rattle.trace_types.specs.SegmentLists.{NamesDiffer}
use Rattle.trace_types.specs.Segments.{SegmentName, name_of}
use Rattle.model_checks.specs.declared.refuted.Refuted.{Refuted}
use Rattle.model_checks.specs.inner.Answers.{IsTraceAnswer}
use Rattle.model_checks.proofs.ElementLemmas.{Any-more, Any-before, Any-now}

-- where names differ, there is one segment of a name
one_of_name : (xs : List Segment) → NamesDiffer name_of xs → (s t : Segment) → Contains xs s → Contains xs t → name_of s ≡ name_of t → s ≡ t
one_of_name xs differ s t c d e =
    let es : get_or xs c.0 s ≡ s = c.2 in
    let et : get_or xs d.0 s ≡ t = get_or_default xs d.0 s t d.1 ∙ d.2 in
    let same : name_of (get_or xs c.0 s) ≡ name_of (get_or xs d.0 s) = ap name_of es ∙ e ∙ sym (ap name_of et) in
    ⊎_elim
    (λ (h : c.0 ≡ d.0). sym es ∙ ap (λ (k : ℕ). get_or xs k s) h ∙ et)
    (⊎_elim (λ (h : c.0 < d.0). absurd (differ c.0 d.0 s h d.1 same)) (λ (h : d.0 < c.0). absurd (differ d.0 c.0 s h c.1 (sym same))))
    (cases_order c.0 d.0)

-- the segment is the trace's of this name
abbrev pub IsNamed : Trace → SegmentName → Segment → Type 0
IsNamed trace a s = Contains trace.segments s × (name_of s ≡ a)

-- a test of the two segments tests the trace
told_by_two : (trace : Trace) (a b : SegmentName) (s t : Segment) → IsNamed trace a s → IsNamed trace b t → (R : Segment → Segment → Type 0) (r : Bool) → (r ≡ true) ↔ R s t → (r ≡ true) ↔ HasBoth by_text a b R trace
told_by_two trace a b s t cs ct R r told = (
  (λ h. (s, t, cs.0, ct.0, cs.1, ct.1, told.0 h)),
  (λ r.
      let e : r.0 ≡ s = one_of_name trace.segments trace.names_differ r.0 s r.2 cs.0 (r.4 ∙ sym cs.1) in
      let f : r.1 ≡ t = one_of_name trace.segments trace.names_differ r.1 t r.3 ct.0 (r.5 ∙ sym ct.1) in
      told.1 (subst (λ v. R v t) e (subst (λ v. R r.0 v) f r.6))),
)

told_both : (x y r : Bool) (A B : Type 0) → r ≡ (x && y) → (x ≡ true) ↔ A → (y ≡ true) ↔ B → (r ≡ true) ↔ (A × B)
told_both x y r A B e p q = (
  (λ h. let t = and_parts x y (sym e ∙ h) in (p.0 t.0, q.0 t.1)),
  (λ h. e ∙ and_from x y (p.1 h.0) (q.1 h.1)),
)

-- the answer on two segments is the trace's on their names
pub answer_of_two : (trace : Trace) (a b : SegmentName) (s t : Segment) → IsNamed trace a s → IsNamed trace b t → (answer : Refuted) → answer.apart ≡ true → (answer.before ≡ true) ↔ StartsEarly by_text trace t s → (answer.after ≡ true) ↔ StartsEarly by_text trace s t
    → answer.exclusive ≡ (answer.after && answer.before) → IsTraceAnswer trace a b answer
answer_of_two trace a b s t cs ct answer apart before after exclusive = record {
  apart = told_by_two trace a b s t cs ct (λ (u v : Segment). Unit {0}) answer.apart ((λ h. tt), (λ h. apart));
  before = told_by_two trace a b s t cs ct (λ (u v : Segment). StartsEarly by_text trace v u) answer.before before;
  after = told_by_two trace b a t s ct cs (λ (u v : Segment). StartsEarly by_text trace v u) answer.after after;
  exclusive = told_by_two trace a b s t cs ct (λ (u v : Segment). StartsEarly by_text trace u v × StartsEarly by_text trace v u) answer.exclusive
      (told_both answer.after answer.before answer.exclusive (StartsEarly by_text trace s t) (StartsEarly by_text trace t s) exclusive after before);
}

-- no segment of the trace has this name
abbrev pub HasNoneNamed : Trace → SegmentName → Type 0
HasNoneNamed trace a = All (λ (s : Segment). name_of s ≢ a) trace.segments

none_named : (trace : Trace) (a : SegmentName) (s : Segment) → HasNoneNamed trace a → Contains trace.segments s → name_of s ≡ a → ⊥
none_named trace a s none c e = All-contains (λ (s : Segment). name_of s ≢ a) trace.segments s none c e

-- that nothing is refuted
abbrev pub nothing : Refuted
nothing = record { apart = false; before = false; after = false; exclusive = false }

refutes_none : (A : Type 0) → (A → ⊥) → (false ≡ true) ↔ A
refutes_none A none = ((λ h. absurd (false≢true h)), (λ a. absurd (none a)))

pub answer_without_first : (trace : Trace) (a b : SegmentName) → HasNoneNamed trace a → IsTraceAnswer trace a b nothing
answer_without_first trace a b none = record {
  apart = refutes_none _ (λ r. none_named trace a r.0 none r.2 r.4);
  before = refutes_none _ (λ r. none_named trace a r.0 none r.2 r.4);
  after = refutes_none _ (λ r. none_named trace a r.1 none r.3 r.5);
  exclusive = refutes_none _ (λ r. none_named trace a r.0 none r.2 r.4);
}

pub answer_without_second : (trace : Trace) (a b : SegmentName) → HasNoneNamed trace b → IsTraceAnswer trace a b nothing
answer_without_second trace a b none = record {
  apart = refutes_none _ (λ r. none_named trace b r.1 none r.3 r.5);
  before = refutes_none _ (λ r. none_named trace b r.1 none r.3 r.5);
  after = refutes_none _ (λ r. none_named trace b r.0 none r.2 r.4);
  exclusive = refutes_none _ (λ r. none_named trace b r.1 none r.3 r.5);
}

-- one more trace
pub refuted_more : {T : Type 0} (P : T → Type 0) (xs : List T) (i : ℕ) (x : T) → i < length xs → x ≡ get_or xs i x → (before here : Bool) → (before ≡ true) ↔ Any P (take i xs) → (here ≡ true) ↔ P x → (before || here ≡ true) ↔ Any P (take (i + 1) xs)
refuted_more P xs i x lt e before here so_far now = (
  (λ h. ⊎_elim (λ (t : before ≡ true). Any-before P xs i x lt (so_far.0 t)) (λ (t : here ≡ true). Any-now P xs i x lt e (now.0 t)) (or_cases before here h)),
  (λ a. ⊎_elim (λ (b : Any P (take i xs)). or_left before here (so_far.1 b)) (λ (p : P x). or_right before here (now.1 p)) (Any-more P xs i x lt e a)),
)
