use Rattle.std.proofs.Common.{◌≡◌, ◌/◌, ◌≤◌, ℕ, List, [], length, sym, ap, subst}
use Rattle.std.proofs.lemmas.Option.{get_or_from_slice_get}
use Rattle.event_table.specs.Numbers.{text_under}
use Rattle.event_table.specs.Texts.{TextLists}
use Rattle.trace_types.specs.SegmentLists.{NamesDiffer, TasksStandTogether, JoinInTasks}
use Rattle.trace_types.specs.Segments.{name_of, task_of, start_of, end_of}
use Rattle.segment_cut.specs.Cutting.{AreSegments, IsSpan, nanoseconds_per_day}
use Rattle.segment_cut.specs.NumberedCuts.{segments_under}
use Rattle.segment_cut.specs.inner.Keys.{AreInLineOrder, Key, key_times}
use Rattle.segment_cut.specs.inner.Times.{AreTimes}
use Rattle.segment_cut.specs.inner.Segments.{AreListed}
use Rattle.segment_cut.proofs.trace_cut.cut_by.Goals as goal

pub returns-in-Err-clause-err : goal.returns-in-Err-clause-err
returns-in-Err-clause-err c = λ _. (c.requires.short, c.requires.named, c.requires.messages, rw c.in-Err.is at c.in_ok-made.ensures)

pub invariant_of-result : goal.invariant_of-result
invariant_of-result c =
    let raw = c.args.raw.now in
    let items = c.in_ok-segments.segments.items in
    let listed : AreListed raw.trace.events (key_times c.in-Ok.keys.items) (segments_under raw.texts items) = c.in_ok-segments.ensures.segments in
    let back = sym c.texts.ensures in (
      subst (λ (ts : TextLists). NamesDiffer name_of (segments_under ts items)) back listed.names_differ,
      (
        subst (λ (ts : TextLists). TasksStandTogether task_of (segments_under ts items)) back listed.together,
        (subst (λ (ts : TextLists). JoinInTasks task_of start_of end_of (segments_under ts items)) back listed.joined, tt),
      ),
    )

pub returns-clause-ok : goal.returns-clause-ok
returns-clause-ok c =
    let raw = c.args.raw.now in
    let items = c.in_ok-segments.segments.items in
    let made : AreInLineOrder c.args.tasks.now c.in-Ok.keys.items × AreTimes raw.trace.events (key_times c.in-Ok.keys.items) = rw c.in-Ok.is at c.in_ok-made.ensures in
    let times = made.1 in
    let listed : AreListed raw.trace.events (key_times c.in-Ok.keys.items) (segments_under raw.texts items) = c.in_ok-segments.ensures.segments in
    record {
      times = key_times c.in-Ok.keys.items;
      adjusted = times.0;
      valid = record { short = c.requires.short; named_once = c.requires.named; messages_once = c.requires.messages; in_range = times.1 };
      named = subst (λ (ts : TextLists). text_under ts.requests c.request_number.result ≡ raw.trace.request) (sym c.texts.ensures) (get_or_from_slice_get raw.texts.requests c.request_number.result raw.trace.request [] c.request_number.ensures);
      day = ap (λ (t : ℕ). t / nanoseconds_per_day) c.time.ensures;
      latency = subst (λ (ks : List Key). IsSpan (key_times ks) c.span-latency.result) c.deref.ensures.value c.span-latency.ensures;
      segments = subst (λ (ts : TextLists). AreSegments raw.trace.events (key_times c.in-Ok.keys.items) (segments_under ts items)) (sym c.texts.ensures) listed.segments_are;
    }

pub returns-clause-few : goal.returns-clause-few
returns-clause-few c =
    let raw = c.args.raw.now in
    let items = c.in_ok-segments.segments.items in
    let listed : AreListed raw.trace.events (key_times c.in-Ok.keys.items) (segments_under raw.texts items) = c.in_ok-segments.ensures.segments in
    subst (λ (ts : TextLists). length (segments_under ts items) ≤ length raw.trace.events) (sym c.texts.ensures) listed.few
