-- The traces that a session keeps refute few relations.
use Rattle.std.proofs.Common.{◌≡◌, ℕ, ◌+◌, ◌*◌, ◌<◌, ◌≤◌, List, ◌++◌, length, map, subst, inl, inr, arith, length-append}
use Rattle.std.specs.Prelude.{All, Contains, ◌^◌}
use Rattle.std.specs.Cmp.{IsTotalOrder}
use Rattle.std.specs.Cmp.Lexicographic.{slice_cmp}
use Rattle.std.specs.Ordering.{nat_cmp}
use Rattle.std.proofs.lemmas.List.{length-map}
use Rattle.std.proofs.lemmas.List.Elements.{All-contains}
use Rattle.std.proofs.lemmas.Option.{get_or_from_slice_get, slice_get_within}
use Rattle.certificates.specs.declared.matter.Matter.{Matter}
use Rattle.certificates.specs.declared.matter.Matter.TheVariants.{Before, Exclusive, Pipe}
use Rattle.event_lines.specs.declared.line.Line.{Line}
use Rattle.segment_names.specs.Known.{Known}
use Rattle.session_rules.specs.KeptTraces.{Kept, by_kept}
use Rattle.session_rules.specs.Refutations.{AreRefutations, Refutations, RefutesMatter, matters_of}
use Rattle.session_rules.specs.Sessions.{State}
use Rattle.trace_types.specs.NameOrder.{name_cmp, pair_cmp}
use Rattle.trace_types.specs.Pipelines.{HandlesAt, RefutesPipe}
use Rattle.trace_types.specs.Refuting.{HasBoth}
use Rattle.trace_types.specs.Segments.{SegmentName, name_of}
use Rattle.trace_types.specs.Surviving.{IsRefuted}
use Rattle.trace_types.specs.declared.segment.Segment.{Segment}
use Rattle.certificate_laws.specs.PrintableLaws.{IsLastState}
use Rattle.certificate_laws.proofs.KnownLemmas.{IsKnowing, IsKnownSegment, IsKnownTrace, last_knows}
use Rattle.certificate_laws.proofs.ListLemmas.{contains_pair, few_pairs, few_rising, pairs_of}

-- ---- what a trace refutes

module _ (known : Known) (k : Kept) (h : IsKnownTrace known k) where
  name_known : (s : Segment) (a : SegmentName) → Contains k.trace.segments s → name_of s ≡ a → Contains known.names a
  name_known s a c is = subst (Contains known.names) is (All-contains (IsKnownSegment known) k.trace.segments s h c).name

  names_known : (a b : SegmentName) (R : Segment → Segment → Type 0) → HasBoth by_kept a b R k → Contains (pairs_of known.names known.names) (a, b)
  names_known a b R both = contains_pair known.names known.names a b (name_known both.0 a both.2 both.4) (name_known both.1 b both.3 both.5)

  task_known : (t e : List ℕ) (i : ℕ) (s : Segment) → HandlesAt by_kept k t e i s → Contains known.tasks t
  task_known t e i s handles =
      let there : Contains k.trace.segments s = (i, slice_get_within k.trace.segments i s handles.segment, get_or_from_slice_get k.trace.segments i s s handles.segment) in
      subst (Contains known.tasks) handles.task (All-contains (IsKnownSegment known) k.trace.segments s h there).task

  tasks_known : (t u : List ℕ) → RefutesPipe by_kept t u k → Contains (pairs_of known.tasks known.tasks) (t, u)
  tasks_known t u (inl takes) = contains_pair known.tasks known.tasks t u
      (task_known t takes.element takes.giver takes.given takes.ends.handles)
      (task_known u takes.element takes.taker takes.taken takes.starts.handles)
  tasks_known t u (inr takes) = contains_pair known.tasks known.tasks t u
      (task_known t takes.one takes.in_order.earlier takes.in_order.s takes.in_order.first.handles)
      (task_known u takes.other takes.turned.earlier takes.turned.s takes.turned.first.handles)

-- ---- what kept traces refute

-- if each trace that refutes a relation shows Q, one that is refuted does
refuter : (Q : Type 0) (matter : Matter) (known : Known) (kept : List Kept) → All (IsKnownTrace known) kept → ((k : Kept) → IsKnownTrace known k → RefutesMatter matter k → Q) → IsRefuted (RefutesMatter matter) kept → Q
refuter Q matter known kept each shows some = shows some.1 (All-contains (IsKnownTrace known) kept some.1 each (some.0, some.2, some.3)) some.4

module _ (names_total : IsTotalOrder (pair_cmp name_cmp)) (tasks_total : IsTotalOrder (pair_cmp (slice_cmp nat_cmp))) (s : State) (knows : IsKnowing s) (refuted : Refutations) (are : AreRefutations s.kept refuted) where
  few_name_pairs : length (pairs_of s.known.names s.known.names) ≤ 512 * 512
  few_name_pairs =
      let few : length s.known.names ≤ 512 = knows.fits.0 in
      omega (arith, few_pairs s.known.names s.known.names 512 few)

  few_task_pairs : length (pairs_of s.known.tasks s.known.tasks) ≤ 64 * 64
  few_task_pairs =
      let few : length s.known.tasks ≤ 64 = knows.fits.1 in
      omega (arith, few_pairs s.known.tasks s.known.tasks 64 few)

  few_before : length refuted.before ≤ length (pairs_of s.known.names s.known.names)
  few_before = few_rising (pair_cmp name_cmp) names_total refuted.before (pairs_of s.known.names s.known.names) are.before.rising
      (λ p c. refuter (Contains (pairs_of s.known.names s.known.names) p) (Before p.0 p.1) s.known s.kept knows.each
      (λ k h r. names_known s.known k h p.0 p.1 _ r.1) ((are.before.exactly p).0 c))

  few_exclusive : length refuted.exclusive ≤ length (pairs_of s.known.names s.known.names)
  few_exclusive = few_rising (pair_cmp name_cmp) names_total refuted.exclusive (pairs_of s.known.names s.known.names) are.exclusive.rising
      (λ p c. refuter (Contains (pairs_of s.known.names s.known.names) p) (Exclusive p.0 p.1) s.known s.kept knows.each
      (λ k h r. names_known s.known k h p.0 p.1 _ r.1) ((are.exclusive.exactly p).0 c).1)

  few_pipe : length refuted.pipe ≤ length (pairs_of s.known.tasks s.known.tasks)
  few_pipe = few_rising (pair_cmp (slice_cmp nat_cmp)) tasks_total refuted.pipe (pairs_of s.known.tasks s.known.tasks) are.pipe.rising
      (λ p c. refuter (Contains (pairs_of s.known.tasks s.known.tasks) p) (Pipe p.0 p.1) s.known s.kept knows.each
      (λ k h r. tasks_known s.known k h p.0 p.1 r.1) ((are.pipe.exactly p).0 c))

  length-matters : length (matters_of refuted) ≡ length refuted.before + (length refuted.exclusive + length refuted.pipe)
  length-matters =
      let before = λ (p : SegmentName × SegmentName). Before p.0 p.1 in
      let exclusive = λ (p : SegmentName × SegmentName). Exclusive p.0 p.1 in
      let pipe = λ (p : List ℕ × List ℕ). Pipe p.0 p.1 in
      omega (arith, length-append (map before refuted.before) (map exclusive refuted.exclusive ++ map pipe refuted.pipe), length-append (map exclusive refuted.exclusive) (map pipe refuted.pipe), length-map refuted.before before, length-map refuted.exclusive exclusive, length-map refuted.pipe pipe)

  few_matters : length (matters_of refuted) < 2 ^ 32
  few_matters = omega (arith, length-matters, few_before, few_exclusive, few_pipe, few_name_pairs, few_task_pairs)

pub few_refuted : IsTotalOrder (pair_cmp name_cmp) → IsTotalOrder (pair_cmp (slice_cmp nat_cmp)) → (input : List ℕ) (ls : List Line) (last : State) (refuted : Refutations) → IsLastState input ls last → AreRefutations last.kept refuted → length (matters_of refuted) < 2 ^ 32
few_refuted names_total tasks_total input ls last refuted is are = few_matters names_total tasks_total last (last_knows input ls last is) refuted are
