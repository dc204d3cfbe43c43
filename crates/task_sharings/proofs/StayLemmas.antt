-- Where a task starts on elements and is done with them.
use Rattle.std.proofs.Common.{◌≡◌, ◌↔◌, MatchOption, Bool, true, ℕ, ◌+◌, ◌<◌, ◌≤◌, Option, Some, None, List, length, get_or, slice_get, Contains, sym, ap, ◌∙◌, subst, ⊎_elim, arith, inl}
use Rattle.std.proofs.lemmas.Bool.{cases_lt}
use Rattle.std.proofs.lemmas.List.{get_or_default}
use Rattle.std.proofs.lemmas.Option.{same_Some, slice_get_within}
use Rattle.shared_elements.specs.Elements.{AreElementsOf, Handles}
use Rattle.trace_types.specs.Parts.{by_number}
use Rattle.trace_types.specs.Pipelines.{HandlesAt, RefutesPipe, TakesOutOfOrder, TakesUnfinished}
use Rattle.trace_types.specs.Refuting.{StartsEarly}
use Rattle.trace_types.specs.declared.named_segment.NamedSegment.{NamedSegment}
use Rattle.trace_types.specs.declared.named_trace.NamedTrace.{NamedTrace}
use Rattle.task_sharings.specs.inner.Stays.{IsEnd, IsStart, NeverHandles, Outlasts}

-- a task starts on an element once
pub one_start : (trace : NamedTrace) (t e k l : ℕ) → IsStart trace t e k → IsStart trace t e l → k ≡ l
one_start trace t e k l (s, h) (r, g) = let a = h.first l r g.handles in let b = g.first k s h.handles in omega arith

pub one_end : (trace : NamedTrace) (t e k l : ℕ) → IsEnd trace t e k → IsEnd trace t e l → k ≡ l
one_end trace t e k l (s, h) (r, g) = let a = h.last l r g.handles in let b = g.last k s h.handles in omega arith

-- among the first n segments the task does not handle the element
abbrev pub NoneBefore : NamedTrace → ℕ → ℕ → ℕ → Type 0
NoneBefore trace t e n = (j : ℕ) (r : NamedSegment) → j < n → HandlesAt by_number trace t e j r → ⊥

-- among them it handles it last at k
pub record IsLastBefore (trace : NamedTrace) (t e n k : ℕ) : Type 0 where
  pub s : NamedSegment
  pub handles : HandlesAt by_number trace t e k s
  pub last : (j : ℕ) (r : NamedSegment) → j < n → HandlesAt by_number trace t e j r → j ≤ k

-- what a test of the segment at n tells
pub handled_here : (trace : NamedTrace) (t e n : ℕ) (s : NamedSegment) → slice_get trace.segments n ≡ Some s → Handles t e s → HandlesAt by_number trace t e n s
handled_here trace t e n s at h = record { segment = at; task = h.0; element = h.1 }

pub not_here : (trace : NamedTrace) (t e n : ℕ) (s : NamedSegment) → slice_get trace.segments n ≡ Some s → (Handles t e s → ⊥) → (r : NamedSegment) → HandlesAt by_number trace t e n r → ⊥
not_here trace t e n s at none r h =
    let same : r ≡ s = same_Some r s (sym h.segment ∙ at) in
    none (subst (Handles t e) same (h.task, h.element))

pub none_more : (trace : NamedTrace) (t e n : ℕ) → NoneBefore trace t e n → ((r : NamedSegment) → HandlesAt by_number trace t e n r → ⊥) → NoneBefore trace t e (n + 1)
none_more trace t e n so_far none j r within h = ⊎_elim
    (λ (earlier : j < n). so_far j r earlier h)
    (λ (here : n ≤ j). let same : j ≡ n = omega arith in none r (subst (λ (k : ℕ). HandlesAt by_number trace t e k r) same h))
    (cases_lt j n)

pub last_kept : (trace : NamedTrace) (t e n k : ℕ) → IsLastBefore trace t e n k → ((r : NamedSegment) → HandlesAt by_number trace t e n r → ⊥) → IsLastBefore trace t e (n + 1) k
last_kept trace t e n k so_far none = record {
  s = so_far.s;
  handles = so_far.handles;
  last = λ j r within h. ⊎_elim
      (λ (earlier : j < n). so_far.last j r earlier h)
      (λ (here : n ≤ j). let same : j ≡ n = omega arith in absurd (none r (subst (λ (i : ℕ). HandlesAt by_number trace t e i r) same h)))
      (cases_lt j n);
}

pub last_here : (trace : NamedTrace) (t e n : ℕ) (s : NamedSegment) → HandlesAt by_number trace t e n s → IsLastBefore trace t e (n + 1) n
last_here trace t e n s h = record { s = s; handles = h; last = λ j r within g. omega arith }

pub start_here : (trace : NamedTrace) (t e n : ℕ) (s : NamedSegment) → NoneBefore trace t e n → HandlesAt by_number trace t e n s → IsStart trace t e n
start_here trace t e n s so_far h = (
  s,
  record {
    handles = h;
    first = λ j r g. ⊎_elim (λ (earlier : j < n). absurd (so_far j r earlier g)) (λ (later : n ≤ j). later) (cases_lt j n);
  },
)

-- each index of a segment is within the trace
pub within_trace : (trace : NamedTrace) (t e k : ℕ) (s : NamedSegment) → HandlesAt by_number trace t e k s → k < length trace.segments
within_trace trace t e k s h = slice_get_within trace.segments k s h.segment

pub never : (trace : NamedTrace) (t e n : ℕ) → length trace.segments ≤ n → NoneBefore trace t e n → NeverHandles trace t e
never trace t e n all so_far k s h = so_far k s (let within = within_trace trace t e k s h in omega arith) h

pub end_here : (trace : NamedTrace) (t e n k : ℕ) → length trace.segments ≤ n → IsLastBefore trace t e n k → IsEnd trace t e k
end_here trace t e n k all so_far = (
  so_far.s,
  record {
    handles = so_far.handles;
    last = λ j r h. so_far.last j r (let within = within_trace trace t e j r h in omega arith) h;
  },
)

-- the last index so far, if there is one
abbrev pub EndSoFar : NamedTrace → ℕ → ℕ → ℕ → Option ℕ → Type 0
EndSoFar trace t e n o = MatchOption o (NoneBefore trace t e n) (IsLastBefore trace t e n)

pub so_far_kept : (trace : NamedTrace) (t e n : ℕ) (o : Option ℕ) → EndSoFar trace t e n o → ((r : NamedSegment) → HandlesAt by_number trace t e n r → ⊥) → EndSoFar trace t e (n + 1) o
so_far_kept trace t e n None so_far none = none_more trace t e n so_far none
so_far_kept trace t e n (Some k) so_far none = last_kept trace t e n k so_far none

pub so_far_all : (trace : NamedTrace) (t e n : ℕ) (o : Option ℕ) → length trace.segments ≤ n → EndSoFar trace t e n o → MatchOption o (NeverHandles trace t e) (IsEnd trace t e)
so_far_all trace t e n None all so_far = never trace t e n all so_far
so_far_all trace t e n (Some k) all so_far = end_here trace t e n k all so_far

-- a test of the two segments tells whether the task has the element for longer than the grace
pub outlasts_told : (trace : NamedTrace) (task e end start : ℕ) (s u : NamedSegment) (b : Bool) → slice_get trace.segments end ≡ Some s → slice_get trace.segments start ≡ Some u → IsEnd trace task e end → IsStart trace task e start → (b ≡ true) ↔ StartsEarly by_number trace u s → (b ≡ true) ↔ Outlasts trace task e
outlasts_told trace task e end start s u b at_s at_u (last, ends) (first, starts) told = (
  (λ h. record {
    end = end;
    start = start;
    last = last;
    first = first;
    ends = ends;
    starts = starts;
    early = subst (λ (x : NamedSegment). StartsEarly by_number trace first x) same_last (subst (λ (x : NamedSegment). StartsEarly by_number trace x s) same_first (told.0 h));
  }),
  (λ h.
      let at_end = one_end trace task e end h.end (last, ends) (h.last, h.ends) in
      let at_start = one_start trace task e start h.start (first, starts) (h.first, h.starts) in
      let one : h.last ≡ s = same_Some h.last s (sym h.ends.handles.segment ∙ (ap (slice_get trace.segments) (sym at_end) ∙ at_s)) in
      let other : h.first ≡ u = same_Some h.first u (sym h.starts.handles.segment ∙ (ap (slice_get trace.segments) (sym at_start) ∙ at_u)) in
      told.1 (subst (λ (x : NamedSegment). StartsEarly by_number trace u x) one (subst (λ (x : NamedSegment). StartsEarly by_number trace x h.last) other h.early))),
)
  where
    same_last : s ≡ last
    same_last = same_Some s last (sym at_s ∙ ends.handles.segment)

    same_first : u ≡ first
    same_first = same_Some u first (sym at_u ∙ starts.handles.segment)

-- ---- a pipe from a task to itself
-- a task starts on its elements in one order
in_order : (trace : NamedTrace) (t : ℕ) → TakesOutOfOrder by_number t t trace → ⊥
in_order trace t h =
    let one = one_start trace t h.one h.in_order.earlier h.turned.later (h.in_order.s, h.in_order.first) (h.turned.r, h.turned.second) in
    let other = one_start trace t h.other h.in_order.later h.turned.earlier (h.in_order.r, h.in_order.second) (h.turned.s, h.turned.first) in
    let a = h.in_order.order in
    let b = h.turned.order in
    omega arith

pub refuted_by : (trace : NamedTrace) (t e : ℕ) → Outlasts trace t e → RefutesPipe by_number t t trace
refuted_by trace t e h = inl (record { element = e; giver = h.end; taker = h.start; given = h.last; taken = h.first; ends = h.ends; starts = h.starts; early = h.early })

-- none of the first elements is had for longer than the grace
abbrev pub NoneOutlasts : NamedTrace → ℕ → List ℕ → ℕ → Type 0
NoneOutlasts trace t elements index = (k : ℕ) → k < index → Outlasts trace t (get_or elements k 0) → ⊥

pub none_outlasts_more : (trace : NamedTrace) (t : ℕ) (elements : List ℕ) (index : ℕ) → NoneOutlasts trace t elements index → (Outlasts trace t (get_or elements index 0) → ⊥) → NoneOutlasts trace t elements (index + 1)
none_outlasts_more trace t elements index so none k l h = ⊎_elim
    (λ (low : k < index). so k low h)
    (λ (high : index ≤ k). let here : k ≡ index = omega (arith, l, high) in none (subst (λ (n : ℕ). Outlasts trace t (get_or elements n 0)) here h))
    (cases_lt k index)

pub none_refutes : (trace : NamedTrace) (t : ℕ) (elements : List ℕ) (index : ℕ) → AreElementsOf trace t elements → length elements ≤ index → NoneOutlasts trace t elements index → RefutesPipe by_number t t trace → ⊥
none_refutes trace t elements index are all none h = ⊎_elim
    (λ (a : TakesUnfinished by_number t t trace).
    let c : Contains elements a.element = (are.exactly a.element).1 (a.giver, a.given, a.ends.handles) in
    let is : get_or elements c.0 0 ≡ a.element = get_or_default elements c.0 0 a.element c.1 ∙ c.2 in
    none c.0 (let l = c.1 in omega (arith, l, all)) (subst (Outlasts trace t) (sym is) (record { end = a.giver; start = a.taker; last = a.given; first = a.taken; ends = a.ends; starts = a.starts; early = a.early })))
    (λ (b : TakesOutOfOrder by_number t t trace). in_order trace t b)
    h
