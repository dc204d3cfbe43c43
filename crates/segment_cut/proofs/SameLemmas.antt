-- Segments and traces with the same parts are one: the facts that their types keep hold in one way.
use Rattle.std.proofs.Common.{◌≡◌, ◌≤ℤ◌}
use Rattle.trace_types.specs.declared.segment.Segment.{Segment}
use Rattle.trace_types.specs.declared.trace.Trace.{Trace}
use Rattle.trace_types.specs.SegmentLists.{NamesDiffer, TasksStandTogether, JoinInTasks}
use Rattle.trace_types.specs.Segments.{name_of, task_of, start_of, end_of}
use Rattle.std.proofs.Props.{props}
use mathlib.Core.HLevel.{is_prop→PathP}

-- segments with the same parts are one
pub same_segment : (s r : Segment) → s.task ≡ r.task → s.start_event ≡ r.start_event → s.end_event ≡ r.end_event → s.start ≡ r.start → s.end ≡ r.end → s.element ≡ r.element → s ≡ r
same_segment s r t a b c d e = λ i. record {
  task = t i;
  start_event = a i;
  end_event = b i;
  start = c i;
  end = d i;
  element = e i;
  ordered = is_prop→PathP (λ j. c j ≤ℤ d j) (λ j. Prim.hlevel props) s.ordered r.ordered i;
}

-- traces with the same parts are one
pub same_trace : (t u : Trace) → t.request ≡ u.request → t.day ≡ u.day → t.latency ≡ u.latency → t.segments ≡ u.segments → t ≡ u
same_trace t u r d l s = λ i. record {
  request = r i;
  day = d i;
  latency = l i;
  segments = s i;
  names_differ = is_prop→PathP (λ j. NamesDiffer name_of (s j)) (λ j. Prim.hlevel props) t.names_differ u.names_differ i;
  together = is_prop→PathP (λ j. TasksStandTogether task_of (s j)) (λ j. Prim.hlevel props) t.together u.together i;
  joined = is_prop→PathP (λ j. JoinInTasks task_of start_of end_of (s j)) (λ j. Prim.hlevel props) t.joined u.joined i;
}
