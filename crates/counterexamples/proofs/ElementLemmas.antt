-- Where tasks start on elements and are done with them.
use Rattle.std.proofs.Common.{◌≡◌, ◌↔◌, MatchOption, Bool, true, eqb, ℕ, ◌+◌, ◌<◌, ◌≤◌, Option, Some, None, length, slice_get, refl, sym, ap, ◌∙◌, subst, ⊎_elim, arith}
use Rattle.std.specs.Option.{is_some, option_eq}
use Rattle.std.proofs.lemmas.Bool.{cases_lt, eq-eqb, eqb-true, false≢true}
use Rattle.std.proofs.lemmas.Option.{same_Some, slice_get_within}
use Rattle.refute_tests.specs.Clearing.{starts_early}
use Rattle.trace_types.specs.NamedSegments.{number_of_element, number_of_task}
use Rattle.trace_types.specs.Parts.{by_number}
use Rattle.trace_types.specs.Pipelines.{HandlesAt, RefutesUnshared, TakesUnfinished}
use Rattle.trace_types.specs.Refuting.{StartsEarly}
use Rattle.trace_types.specs.declared.named_segment.NamedSegment.{NamedSegment}
use Rattle.trace_types.specs.declared.named_trace.NamedTrace.{NamedTrace}
use Rattle.refute_tests.proofs.ExactLemmas.{early_means, early_from}
use Rattle.counterexamples.specs.inner.Ends.{Handles, IsEnd, IsStart, NeverHandles, SharesAt, TakesAt, TakesEarly, TakesEarlyAt}

-- the segment at an index is one
pub one_at : (trace : NamedTrace) (k l t u e f : ℕ) (s r : NamedSegment) → HandlesAt by_number trace t e k s → HandlesAt by_number trace u f l r → k ≡ l → s ≡ r
one_at trace k l t u e f s r h g same = same_Some s r (sym h.segment ∙ (ap (slice_get trace.segments) same ∙ g.segment))

-- and so is its element
pub one_element : (trace : NamedTrace) (k t u e f : ℕ) (s r : NamedSegment) → HandlesAt by_number trace t e k s → HandlesAt by_number trace u f k r → e ≡ f
one_element trace k t u e f s r h g = same_Some e f (sym h.element ∙ (ap number_of_element (one_at trace k k t u e f s r h g refl) ∙ g.element))

-- a task starts on an element once
pub one_start : (trace : NamedTrace) (t e k l : ℕ) → IsStart trace t e k → IsStart trace t e l → k ≡ l
one_start trace t e k l (s, h) (r, g) = let a = h.first l r g.handles in let b = g.first k s h.handles in omega arith

pub one_end : (trace : NamedTrace) (t e k l : ℕ) → IsEnd trace t e k → IsEnd trace t e l → k ≡ l
one_end trace t e k l (s, h) (r, g) = let a = h.last l r g.handles in let b = g.last k s h.handles in omega arith

-- an element that is taken early is one that shows it
pub unfinished : (trace : NamedTrace) (t u e : ℕ) → TakesEarly trace t u e → TakesUnfinished by_number t u trace
unfinished trace t u e h = record {
  element = e;
  giver = h.giver;
  taker = h.taker;
  given = h.given;
  taken = h.taken;
  ends = h.ends;
  starts = h.starts;
  early = h.early;
}

pub is_early : (trace : NamedTrace) (t u : ℕ) → (h : TakesUnfinished by_number t u trace) → TakesEarly trace t u h.element
is_early trace t u h = record {
  giver = h.giver;
  taker = h.taker;
  given = h.given;
  taken = h.taken;
  ends = h.ends;
  starts = h.starts;
  early = h.early;
}

-- among the first n segments the task does not handle the element
abbrev pub NoneBefore : NamedTrace → ℕ → ℕ → ℕ → Type 0
NoneBefore trace t e n = (j : ℕ) (r : NamedSegment) → j < n → HandlesAt by_number trace t e j r → ⊥

-- among them it handles it last at k
pub record IsLastBefore (trace : NamedTrace) (t e n k : ℕ) : Type 0 where
  pub s : NamedSegment
  pub handles : HandlesAt by_number trace t e k s
  pub last : (j : ℕ) (r : NamedSegment) → j < n → HandlesAt by_number trace t e j r → j ≤ k

-- what a test of the segment at n tells
pub handled_here : (trace : NamedTrace) (t e n : ℕ) (s : NamedSegment) → slice_get trace.segments n ≡ Some s → Handles t e s → HandlesAt by_number trace t e n s
handled_here trace t e n s at h = record { segment = at; task = h.0; element = h.1 }

pub not_here : (trace : NamedTrace) (t e n : ℕ) (s : NamedSegment) → slice_get trace.segments n ≡ Some s → (Handles t e s → ⊥) → (r : NamedSegment) → HandlesAt by_number trace t e n r → ⊥
not_here trace t e n s at none r h =
    let same : r ≡ s = same_Some r s (sym h.segment ∙ at) in
    none (subst (Handles t e) same (h.task, h.element))

pub none_more : (trace : NamedTrace) (t e n : ℕ) → NoneBefore trace t e n → ((r : NamedSegment) → HandlesAt by_number trace t e n r → ⊥) → NoneBefore trace t e (n + 1)
none_more trace t e n so_far none j r within h = ⊎_elim
    (λ (earlier : j < n). so_far j r earlier h)
    (λ (here : n ≤ j). let same : j ≡ n = omega arith in none r (subst (λ (k : ℕ). HandlesAt by_number trace t e k r) same h))
    (cases_lt j n)

pub last_kept : (trace : NamedTrace) (t e n k : ℕ) → IsLastBefore trace t e n k → ((r : NamedSegment) → HandlesAt by_number trace t e n r → ⊥) → IsLastBefore trace t e (n + 1) k
last_kept trace t e n k so_far none = record {
  s = so_far.s;
  handles = so_far.handles;
  last = λ j r within h. ⊎_elim
      (λ (earlier : j < n). so_far.last j r earlier h)
      (λ (here : n ≤ j). let same : j ≡ n = omega arith in absurd (none r (subst (λ (i : ℕ). HandlesAt by_number trace t e i r) same h)))
      (cases_lt j n);
}

pub last_here : (trace : NamedTrace) (t e n : ℕ) (s : NamedSegment) → HandlesAt by_number trace t e n s → IsLastBefore trace t e (n + 1) n
last_here trace t e n s h = record { s = s; handles = h; last = λ j r within g. omega arith }

pub start_here : (trace : NamedTrace) (t e n : ℕ) (s : NamedSegment) → NoneBefore trace t e n → HandlesAt by_number trace t e n s → IsStart trace t e n
start_here trace t e n s so_far h = (
  s,
  record {
    handles = h;
    first = λ j r g. ⊎_elim (λ (earlier : j < n). absurd (so_far j r earlier g)) (λ (later : n ≤ j). later) (cases_lt j n);
  },
)

-- each index of a segment is within the trace
pub within_trace : (trace : NamedTrace) (t e k : ℕ) (s : NamedSegment) → HandlesAt by_number trace t e k s → k < length trace.segments
within_trace trace t e k s h = slice_get_within trace.segments k s h.segment

pub never : (trace : NamedTrace) (t e n : ℕ) → length trace.segments ≤ n → NoneBefore trace t e n → NeverHandles trace t e
never trace t e n all so_far k s h = so_far k s (let within = within_trace trace t e k s h in omega arith) h

pub end_here : (trace : NamedTrace) (t e n k : ℕ) → length trace.segments ≤ n → IsLastBefore trace t e n k → IsEnd trace t e k
end_here trace t e n k all so_far = (
  so_far.s,
  record {
    handles = so_far.handles;
    last = λ j r h. so_far.last j r (let within = within_trace trace t e j r h in omega arith) h;
  },
)

-- the last index so far, if there is one
abbrev pub EndSoFar : NamedTrace → ℕ → ℕ → ℕ → Option ℕ → Type 0
EndSoFar trace t e n o = MatchOption o (NoneBefore trace t e n) (IsLastBefore trace t e n)

pub so_far_kept : (trace : NamedTrace) (t e n : ℕ) (o : Option ℕ) → EndSoFar trace t e n o → ((r : NamedSegment) → HandlesAt by_number trace t e n r → ⊥) → EndSoFar trace t e (n + 1) o
so_far_kept trace t e n None so_far none = none_more trace t e n so_far none
so_far_kept trace t e n (Some k) so_far none = last_kept trace t e n k so_far none

pub so_far_all : (trace : NamedTrace) (t e n : ℕ) (o : Option ℕ) → length trace.segments ≤ n → EndSoFar trace t e n o → MatchOption o (NeverHandles trace t e) (IsEnd trace t e)
so_far_all trace t e n None all so_far = never trace t e n all so_far
so_far_all trace t e n (Some k) all so_far = end_here trace t e n k all so_far

-- a test of the two segments tells whether the element is taken early
pub early_tells : (trace : NamedTrace) (from to e giver taker : ℕ) (s u : NamedSegment) → slice_get trace.segments giver ≡ Some s → slice_get trace.segments taker ≡ Some u → IsEnd trace from e giver → IsStart trace to e taker → (starts_early trace.grace u s ≡ true) ↔ TakesEarly trace from to e
early_tells trace from to e giver taker s u at_s at_u (given, ends) (taken, starts) = (
  (λ h. record {
    giver = giver;
    taker = taker;
    given = given;
    taken = taken;
    ends = ends;
    starts = starts;
    early = subst (λ (x : NamedSegment). StartsEarly by_number trace taken x) same_given (subst (λ (x : NamedSegment). StartsEarly by_number trace x s) same_taken (early_means trace s u h));
  }),
  (λ h.
      let at_end = one_end trace from e giver h.giver (given, ends) (h.given, h.ends) in
      let at_start = one_start trace to e taker h.taker (taken, starts) (h.taken, h.starts) in
      let one : h.given ≡ s = same_Some h.given s (sym h.ends.handles.segment ∙ (ap (slice_get trace.segments) (sym at_end) ∙ at_s)) in
      let other : h.taken ≡ u = same_Some h.taken u (sym h.starts.handles.segment ∙ (ap (slice_get trace.segments) (sym at_start) ∙ at_u)) in
      early_from trace s u (subst (λ (x : NamedSegment). StartsEarly by_number trace u x) one (subst (λ (x : NamedSegment). StartsEarly by_number trace x h.given) other h.early))),
)
  where
    same_given : s ≡ given
    same_given = same_Some s given (sym at_s ∙ ends.handles.segment)

    same_taken : u ≡ taken
    same_taken = same_Some u taken (sym at_u ∙ starts.handles.segment)

-- where the segment at an index has this element, and its task starts on it elsewhere or never, it
-- starts on none there
pub not_taken : (trace : NamedTrace) (from to index e : ℕ) (s : NamedSegment) (o : Option ℕ) → slice_get trace.segments index ≡ Some s → s.element ≡ Some e → MatchOption o (NeverHandles trace from e) (IsStart trace from e) → (o ≡ Some index → ⊥) → (x : ℕ) → TakesAt trace from to index x → ⊥
not_taken trace from to index e s o at is told differ x a = by o told differ
  where
    same : a.element ≡ e
    same = same_Some a.element e (sym a.given.1.handles.element ∙ (ap number_of_element (same_Some a.given.0 s (sym a.given.1.handles.segment ∙ at)) ∙ is))

    start : IsStart trace from e index
    start = subst (λ (f : ℕ). IsStart trace from f index) same a.given

    by : (p : Option ℕ) → MatchOption p (NeverHandles trace from e) (IsStart trace from e) → (p ≡ Some index → ⊥) → ⊥
    by None never_so other = never_so index start.0 start.1.handles
    by (Some k) begun other = other (ap Some (one_start trace from e k index begun start))

-- and where it starts there, the other task's start is the one that is asked for
pub taken_if : (trace : NamedTrace) (from to index e : ℕ) (s : NamedSegment) (o p : Option ℕ) → slice_get trace.segments index ≡ Some s → s.element ≡ Some e → MatchOption o (NeverHandles trace from e) (IsStart trace from e) → o ≡ Some index → MatchOption p (NeverHandles trace to e) (IsStart trace to e)
    → MatchOption p ((x : ℕ) → TakesAt trace from to index x → ⊥) (TakesAt trace from to index)
taken_if trace from to index e s o p at is told here other = by p other
  where
    start : IsStart trace from e index
    start = subst (λ (q : Option ℕ). MatchOption q (NeverHandles trace from e) (IsStart trace from e)) here told

    by : (p : Option ℕ) → MatchOption p (NeverHandles trace to e) (IsStart trace to e) → MatchOption p ((x : ℕ) → TakesAt trace from to index x → ⊥) (TakesAt trace from to index)
    by None none = λ x a.
        let same : a.element ≡ e = same_Some a.element e (sym a.given.1.handles.element ∙ (ap number_of_element (same_Some a.given.0 s (sym a.given.1.handles.segment ∙ at)) ∙ is)) in
        none x a.taken.0 (subst (λ (f : ℕ). HandlesAt by_number trace to f x a.taken.0) same a.taken.1.handles)
    by (Some x) begun = record { element = e; given = start; taken = begun }

-- what holds at none of the first n indices, nor at n
pub never_more : (P : ℕ → Type 0) (n : ℕ) → ((k : ℕ) → k < n → P k → ⊥) → (P n → ⊥) → (k : ℕ) → k < n + 1 → P k → ⊥
never_more P n so_far none k within p = ⊎_elim
    (λ (earlier : k < n). so_far k earlier p)
    (λ (here : n ≤ k). let same : k ≡ n = omega arith in none (subst P same p))
    (cases_lt k n)

-- whether an index is there tells what it shows
pub told_by_some : {X : Type 0} (P : X → Type 0) (Q : Type 0) (o : Option X) → MatchOption o (Q → ⊥) P → ((x : X) → P x → Q) → (is_some o ≡ true) ↔ Q
told_by_some P Q None none give = ((λ h. absurd (false≢true h)), (λ q. absurd (none q)))
told_by_some P Q (Some x) has give = ((λ h. give x has), (λ q. refl))

-- the element of the segment at an index is one
pub element_at : (trace : NamedTrace) (k t e f : ℕ) (s r : NamedSegment) → slice_get trace.segments k ≡ Some s → s.element ≡ Some e → HandlesAt by_number trace t f k r → (r ≡ s) × (f ≡ e)
element_at trace k t e f s r at is h =
    let same : r ≡ s = same_Some r s (sym h.segment ∙ at) in
    (same, same_Some f e (sym h.element ∙ (ap number_of_element same ∙ is)))

pub shares_told : (trace : NamedTrace) (low high k e : ℕ) (s : NamedSegment) (o : Option ℕ) → slice_get trace.segments k ≡ Some s → s.element ≡ Some e → s.task ≡ low → MatchOption o (NeverHandles trace high e) (IsStart trace high e) → (is_some o ≡ true) ↔ SharesAt trace low high k
shares_told trace low high k e s o at is task told = by o told
  where
    by : (o : Option ℕ) → MatchOption o (NeverHandles trace high e) (IsStart trace high e) → (is_some o ≡ true) ↔ SharesAt trace low high k
    by None none = (
      (λ h. absurd (false≢true h)),
      (λ h. absurd (none h.l h.r (subst (λ (f : ℕ). HandlesAt by_number trace high f h.l h.r) (element_at trace k low e h.element s h.s at is h.one).1 h.other))),
    )
    by (Some l) start = (
      (λ h. record { element = e; l = l; s = s; r = start.0; one = record { segment = at; task = task; element = is }; other = start.1.handles }),
      (λ h. refl),
    )

pub not_shared : (trace : NamedTrace) (low high k e : ℕ) (s : NamedSegment) → slice_get trace.segments k ≡ Some s → s.element ≡ Some e → (s.task ≡ low → ⊥) → SharesAt trace low high k → ⊥
not_shared trace low high k e s at is other h = other (ap number_of_task (sym (element_at trace k low e h.element s h.s at is h.one).0) ∙ h.one.task)

pub unshared_from : (trace : NamedTrace) (low high k : ℕ) → SharesAt trace low high k → RefutesUnshared by_number low high trace
unshared_from trace low high k h = record { element = h.element; k = k; l = h.l; s = h.s; r = h.r; one = h.one; other = h.other }

pub shares_from : (trace : NamedTrace) (low high : ℕ) → (h : RefutesUnshared by_number low high trace) → SharesAt trace low high h.k
shares_from trace low high h = record { element = h.element; l = h.l; s = h.s; r = h.r; one = h.one; other = h.other }

pub early_at_told : (trace : NamedTrace) (from to k e : ℕ) (s : NamedSegment) (b : Bool) → slice_get trace.segments k ≡ Some s → s.element ≡ Some e → ((b ≡ true) ↔ TakesEarly trace from to e) → (b ≡ true) ↔ TakesEarlyAt trace from to k
early_at_told trace from to k e s b at is told = (
  (λ h. record { element = e; s = s; segment = at; is = is; early = told.0 h }),
  (λ h.
      let same : h.s ≡ s = same_Some h.s s (sym h.segment ∙ at) in
      let element : h.element ≡ e = same_Some h.element e (sym h.is ∙ (ap number_of_element same ∙ is)) in
      told.1 (subst (TakesEarly trace from to) element h.early)),
)

pub early_at_from : (trace : NamedTrace) (from to : ℕ) → (h : TakesUnfinished by_number from to trace) → TakesEarlyAt trace from to h.giver
early_at_from trace from to h = record { element = h.element; s = h.given; segment = h.ends.handles.segment; is = h.ends.handles.element; early = is_early trace from to h }

pub same_option : (o : Option ℕ) (i : ℕ) → option_eq eqb o (Some i) ≡ true → o ≡ Some i
same_option None i h = absurd (false≢true h)
same_option (Some k) i h = ap Some (eqb-true k i h)

pub option_same : (o : Option ℕ) (i : ℕ) → o ≡ Some i → option_eq eqb o (Some i) ≡ true
option_same o i e = ap (λ (p : Option ℕ). option_eq eqb p (Some i)) e ∙ eq-eqb i i refl
