-- What one more trace adds to a row of answers.
use Rattle.std.proofs.Common.{◌≡◌, ◌↔◌, ℕ, ◌+◌, ◌<◌, ◌≤◌, Bool, true, ◌||◌, List, [], length, get_or, set, take, replicate, sym, ap, ◌∙◌, subst, ⊎_elim, arith}
use Rattle.std.specs.List.{Any}
use Rattle.std.proofs.lemmas.Bool.{cases_lt, false≢true}
use Rattle.std.proofs.lemmas.List.{get_or-set_same, get_or-set_other, length-set, get_or_default, get_or-replicate, length-replicate}
use Rattle.trace_types.specs.declared.trace.Trace.{Trace}
use Rattle.trace_types.specs.Parts.{by_text}
use Rattle.trace_types.specs.Refuting.{RefutesBefore, RefutesExclusive, RefutesApart}
use Rattle.trace_types.specs.Segments.{SegmentName}
use Rattle.model_checks.specs.declared.refuted.Refuted.{Refuted}
use Rattle.model_checks.specs.inner.Answers.{IsTraceAnswer, IsAnswer, AreAnswers}
use Rattle.model_checks.proofs.RefuterLemmas.{nothing, refuted_more}

-- the answer that joins two
pub record Joins (old here new : Refuted) : Type 0 where
  pub apart : new.apart ≡ (old.apart || here.apart)
  pub before : new.before ≡ (old.before || here.before)
  pub after : new.after ≡ (old.after || here.after)
  pub exclusive : new.exclusive ≡ (old.exclusive || here.exclusive)

moved : (n x : Bool) (A : Type 0) → n ≡ x → (x ≡ true) ↔ A → (n ≡ true) ↔ A
moved n x A e h = ((λ t. h.0 (sym e ∙ t)), (λ a. e ∙ h.1 a))

told_by_one : (traces : List Trace) (at : ℕ) (trace : Trace) (a b : SegmentName) (old here new : Refuted) → at < length traces → trace ≡ get_or traces at trace → IsAnswer (take at traces) a b old → IsTraceAnswer trace a b here → Joins old here new → IsAnswer (take (at + 1) traces) a b new
told_by_one traces at trace a b old here new lt e told now joins = record {
  apart = moved new.apart (old.apart || here.apart) _ joins.apart (refuted_more (RefutesApart by_text a b) traces at trace lt e old.apart here.apart told.apart now.apart);
  before = moved new.before (old.before || here.before) _ joins.before (refuted_more (RefutesBefore by_text a b) traces at trace lt e old.before here.before told.before now.before);
  after = moved new.after (old.after || here.after) _ joins.after (refuted_more (RefutesBefore by_text b a) traces at trace lt e old.after here.after told.after now.after);
  exclusive = moved new.exclusive (old.exclusive || here.exclusive) _ joins.exclusive (refuted_more (RefutesExclusive by_text a b) traces at trace lt e old.exclusive here.exclusive told.exclusive now.exclusive);
}

below_zero : (i : ℕ) → i < 0 → ⊥
below_zero i low = omega arith

within : (i n place : ℕ) → i < n → n ≤ place → i < place
within i n place lt end = omega arith

apart_below : (i place : ℕ) → i < place → i ≡ place → ⊥
apart_below i place low q = omega arith

apart_above : (i place : ℕ) → place + 1 ≤ i → i ≡ place → ⊥
apart_above i place low q = omega arith

-- the row has the trace at this place of the list up to this place of its own, and not from there on
pub record AreAnswersTo (traces : List Trace) (at place : ℕ) (first : SegmentName) (names : List SegmentName) (row : List Refuted) : Type 0 where
  pub each : length row ≡ length names
  pub done : (i : ℕ) (name : SegmentName) (refuted : Refuted) → i < place → i < length names → IsAnswer (take (at + 1) traces) first (get_or names i name) (get_or row i refuted)
  pub left : (i : ℕ) (name : SegmentName) (refuted : Refuted) → place ≤ i → i < length names → IsAnswer (take at traces) first (get_or names i name) (get_or row i refuted)

pub told_start : (traces : List Trace) (at : ℕ) (first : SegmentName) (names : List SegmentName) (row : List Refuted) → AreAnswers (take at traces) first names row → AreAnswersTo traces at 0 first names row
told_start traces at first names row told = record {
  each = told.each;
  done = λ i name refuted low lt. absurd (below_zero i low);
  left = λ i name refuted low lt. told.answers i name refuted lt;
}

pub told_end : (traces : List Trace) (at place : ℕ) (first : SegmentName) (names : List SegmentName) (row : List Refuted) → length names ≤ place → AreAnswersTo traces at place first names row → AreAnswers (take (at + 1) traces) first names row
told_end traces at place first names row end told = record {
  each = told.each;
  answers = λ i name refuted lt. told.done i name refuted (within i (length names) place lt end) lt;
}

pub told_more : (traces : List Trace) (at place : ℕ) (first : SegmentName) (names : List SegmentName) (row : List Refuted) (trace : Trace) (second : SegmentName) (default here new : Refuted)
    → at < length traces → trace ≡ get_or traces at trace → place < length names → second ≡ get_or names place second
    → IsTraceAnswer trace first second here → Joins (get_or row place default) here new → AreAnswersTo traces at place first names row → AreAnswersTo traces at (place + 1) first names (set row place new)
told_more traces at place first names row trace second default here new lt e lt' es now joins told =
    let old : Refuted = get_or row place default in
    let same : length row ≡ length names = told.each in
    let here_old : IsAnswer (take at traces) first second old =
    subst (λ (n : SegmentName). IsAnswer (take at traces) first n old) (sym es) (told.left place second default (omega arith) lt') in
    let there : IsAnswer (take (at + 1) traces) first second new = told_by_one traces at trace first second old here new lt e here_old now joins in
    record {
      each = length-set row place new ∙ told.each;
      done = λ i name refuted low lti. ⊎_elim
          (λ (s : i < place).
          subst (λ (r : Refuted). IsAnswer (take (at + 1) traces) first (get_or names i name) r) (sym (get_or-set_other row place i new refuted (λ (q : i ≡ place). apart_below i place s q))) (told.done i name refuted s lti))
          (λ (high : place ≤ i).
          let q : i ≡ place = omega arith in
          let en : get_or names i name ≡ second = ap (λ (k : ℕ). get_or names k name) q ∙ get_or_default names place name second lt' ∙ sym es in
          let er : get_or (set row place new) i refuted ≡ new = ap (λ (k : ℕ). get_or (set row place new) k refuted) q ∙ get_or-set_same row place new refuted (omega arith) in
          subst (λ (n : SegmentName). IsAnswer (take (at + 1) traces) first n (get_or (set row place new) i refuted)) (sym en) (subst (λ (r : Refuted). IsAnswer (take (at + 1) traces) first second r) (sym er) there))
          (cases_lt i place);
      left = λ i name refuted low lti.
          subst (λ (r : Refuted). IsAnswer (take at traces) first (get_or names i name) r) (sym (get_or-set_other row place i new refuted (λ (q : i ≡ place). apart_above i place low q))) (told.left i name refuted (omega arith) lti);
    }

none_any : (P : Trace → Type 0) → Any P [] → ⊥
none_any P h = let low : h.0 < 0 = h.2 in absurd (below_zero h.0 low)

tells_nothing : (a b : SegmentName) → IsAnswer [] a b nothing
tells_nothing a b = record {
  apart = ((λ h. absurd (false≢true h)), (λ h. absurd (none_any _ h)));
  before = ((λ h. absurd (false≢true h)), (λ h. absurd (none_any _ h)));
  after = ((λ h. absurd (false≢true h)), (λ h. absurd (none_any _ h)));
  exclusive = ((λ h. absurd (false≢true h)), (λ h. absurd (none_any _ h)));
}

pub told_nothing : (first : SegmentName) (names : List SegmentName) → AreAnswers [] first names (replicate (length names) nothing)
told_nothing first names = record {
  each = length-replicate (length names) nothing;
  answers = λ i name refuted lt. subst (λ (r : Refuted). IsAnswer [] first (get_or names i name) r) (sym (get_or-replicate (length names) i nothing refuted lt)) (tells_nothing first (get_or names i name));
}
