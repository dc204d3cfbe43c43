-- The valid traces of a batch of good events are printable.
use Rattle.std.proofs.Common.{ℕ, ◌<◌, ◌≤◌, List, [], ◌∷◌, Result, Ok, Err, length, map, sym, subst, arith}
use Rattle.std.specs.Prelude.{All, ℤ}
use Rattle.std.specs.List.{AllZip}
use Rattle.std.specs.Str.{bytes_eq}
use Rattle.std.proofs.lemmas.List.{length-map}
use Rattle.std.proofs.lemmas.List.Elements.{All-cons, All-filter, All-get_or, All-head, All-nil, All-tail}
use Rattle.segment_cut.specs.Cutting.{IsCut, IsSegment}
use Rattle.segment_cut.specs.Neighbours.{AreNeighbours}
use Rattle.segment_cut.specs.declared.trace_fault.TraceFault.{TraceFault}
use Rattle.session_rules.specs.Batches.{IsJudged, valid_of}
use Rattle.session_rules.specs.KeptTraces.{kept_with}
use Rattle.trace_types.specs.Batch.{PlainTrace, is_of_request, requests_of, trace_of, traces_of}
use Rattle.trace_types.specs.Events.{event_name_at, task_at, time_at}
use Rattle.trace_types.specs.Times.{latest_time}
use Rattle.trace_types.specs.declared.event.Event.{Event}
use Rattle.trace_types.specs.declared.segment.Segment.{Segment}
use Rattle.trace_types.specs.declared.trace.Trace.{Trace}
use Rattle.trace_types.proofs.ElementLemmas.{mapped_all}
use Rattle.trace_types.proofs.ShortLemmas.{firsts-short, firsts_all}
use Rattle.certificate_laws.specs.Printable.{HasPrintableName, IsPrintable, IsPrintableText}
use Rattle.certificate_laws.proofs.EventLemmas.{IsGoodEvent}

-- the request is printable, and the events are good
record IsGoodTrace (raw : PlainTrace) : Type 0 where
  request : IsPrintableText raw.request
  events : All IsGoodEvent raw.events

-- ---- the traces of a batch

traces_good : (batch : List Event) → All IsGoodEvent batch → All IsGoodTrace (traces_of batch)
traces_good batch h =
    let requests = mapped_all IsGoodEvent IsPrintableText (λ (e : Event). e.request) batch (λ e g. g.request) h in
    mapped_all IsPrintableText IsGoodTrace (trace_of batch) (requests_of batch) (λ request p. record { request = p; events = All-filter (is_of_request request) IsGoodEvent batch h })
    (firsts_all IsPrintableText bytes_eq (map (λ (e : Event). e.request) batch) requests)

-- ---- a trace that is cut

task_good : (events : List Event) (i : ℕ) → All IsGoodEvent events → i < length events → IsPrintableText (task_at events i)
task_good events i h within = All-get_or IsPrintableText (map (λ (e : Event). e.task) events) i [] (omega (arith, length-map events (λ (e : Event). e.task))) (mapped_all IsGoodEvent IsPrintableText (λ (e : Event). e.task) events (λ e g. g.task) h)

name_good : (events : List Event) (i : ℕ) → All IsGoodEvent events → i < length events → IsPrintableText (event_name_at events i)
name_good events i h within = All-get_or IsPrintableText (map (λ (e : Event). e.event) events) i [] (omega (arith, length-map events (λ (e : Event). e.event))) (mapped_all IsGoodEvent IsPrintableText (λ (e : Event). e.event) events (λ e g. g.event) h)

time_good : (events : List Event) → All IsGoodEvent events → time_at events 0 ≤ latest_time
time_good [] h = omega arith
time_good (e ∷ events) h = (All-head IsGoodEvent e events h).timely

segment_good : (events : List Event) (times : List ℤ) (pair : ℕ × ℕ) (s : Segment) → All IsGoodEvent events → AreNeighbours events times pair.0 pair.1 → IsSegment events times pair s → HasPrintableName s
segment_good events times pair s h near is = record {
  task = subst IsPrintableText (sym is.task) (task_good events pair.0 h near.first);
  start = subst IsPrintableText (sym is.start_event) (name_good events pair.0 h near.first);
  end = subst IsPrintableText (sym is.end_event) (name_good events pair.1 h near.second);
}

segments_good : (events : List Event) (times : List ℤ) (pairs : List (ℕ × ℕ)) (segments : List Segment) → All IsGoodEvent events → All (λ p. AreNeighbours events times p.0 p.1) pairs → AllZip (IsSegment events times) pairs segments → All HasPrintableName segments
segments_good events times [] [] h near each = All-nil HasPrintableName
segments_good events times [] (s ∷ segments) h near each = absurd each
segments_good events times (p ∷ pairs) [] h near each = absurd each
segments_good events times (p ∷ pairs) (s ∷ segments) h near each =
    let P : ℕ × ℕ → Type 0 = λ q. AreNeighbours events times q.0 q.1 in
    All-cons HasPrintableName s segments (segment_good events times p s h (All-head P p pairs near) each.0) (segments_good events times pairs segments h (All-tail P p pairs near) each.1)

cut_printable : (raw : PlainTrace) (trace : Trace) (grace : ℕ) → IsGoodTrace raw → IsCut raw.request raw.events trace → IsPrintable (kept_with grace trace)
cut_printable raw trace grace good cut = record {
  request = subst IsPrintableText (sym cut.named) good.request;
  day = let low = time_good raw.events good.events in omega (arith, cut.day);
  names = segments_good raw.events cut.times cut.segments.pairs trace.segments good.events cut.segments.neighbours.right cut.segments.each;
}

-- ---- all valid traces

-- the trace is printable, whatever grace it is kept with
abbrev pub IsPrintableTrace : Trace → Type 0
IsPrintableTrace trace = (grace : ℕ) → IsPrintable (kept_with grace trace)

valid_by : (raws : List PlainTrace) (verdicts : List (Result Trace TraceFault)) → All IsGoodTrace raws → AllZip IsJudged raws verdicts → All IsPrintableTrace (valid_of verdicts)
valid_by [] [] h each = All-nil IsPrintableTrace
valid_by [] (v ∷ verdicts) h each = absurd each
valid_by (raw ∷ raws) [] h each = absurd each
valid_by (raw ∷ raws) (Ok trace ∷ verdicts) h each =
    All-cons IsPrintableTrace trace (valid_of verdicts) (λ grace. cut_printable raw trace grace (All-head IsGoodTrace raw raws h) each.0) (valid_by raws verdicts (All-tail IsGoodTrace raw raws h) each.1)
valid_by (raw ∷ raws) (Err fault ∷ verdicts) h each = valid_by raws verdicts (All-tail IsGoodTrace raw raws h) each.1

pub valid_printable : (batch : List Event) (verdicts : List (Result Trace TraceFault)) → All IsGoodEvent batch → AllZip IsJudged (traces_of batch) verdicts → All IsPrintableTrace (valid_of verdicts)
valid_printable batch verdicts h each = valid_by (traces_of batch) verdicts (traces_good batch h) each

-- ---- how many there are

traces_few : (batch : List Event) → length (traces_of batch) ≤ length batch
traces_few batch = omega (arith, length-map (requests_of batch) (trace_of batch), firsts-short bytes_eq (map (λ (e : Event). e.request) batch), length-map batch (λ (e : Event). e.request))

judged_few : (raws : List PlainTrace) (verdicts : List (Result Trace TraceFault)) → AllZip IsJudged raws verdicts → length (valid_of verdicts) ≤ length raws
judged_few [] [] each = omega arith
judged_few [] (v ∷ verdicts) each = absurd each
judged_few (raw ∷ raws) [] each = absurd each
judged_few (raw ∷ raws) (Ok trace ∷ verdicts) each = omega (arith, judged_few raws verdicts each.1)
judged_few (raw ∷ raws) (Err fault ∷ verdicts) each = omega (arith, judged_few raws verdicts each.1)

-- a batch has no more valid traces than events
pub valid_few : (batch : List Event) (verdicts : List (Result Trace TraceFault)) → AllZip IsJudged (traces_of batch) verdicts → length (valid_of verdicts) ≤ length batch
valid_few batch verdicts each = omega (arith, judged_few (traces_of batch) verdicts each, traces_few batch)
