use Rattle.std.proofs.Common.{◌≡◌, List, map, subst, take, arith}
use Rattle.std.proofs.lemmas.List.{take_all}
use Rattle.day_partitions.specs.Books.{KeptDay, all_traces}
use Rattle.trace_types.specs.declared.named_trace.NamedTrace.{NamedTrace}
use Rattle.trace_types.specs.NamedSegments.{number_of_name, number_of_task}
use Rattle.trace_types.specs.Parts.{by_number, segments_of}
use Rattle.kept_names.specs.Marking.{AddsMarks}
use Rattle.kept_names.proofs.MarkLemmas.{marked_from_none, marks_more_days, room_kept}
use Rattle.kept_names.proofs.marking.mark_book.Goals as goal

pub loop-place-preserved : goal.loop-place-preserved
loop-place-preserved c = record {
  more = marks_more_days (λ (k : KeptDay). k.traces) (λ (t : NamedTrace). t.segments) c.args.book.now.book.days c.loop-place.place c.traces.result.now c.traces.ensures.traces c.in_ok-marks.marks c.loop-place.marks c.mark_traces.new.marks c.loop-place.invariant.more c.mark_traces.ensures;
  room = room_kept (segments_of by_number c.traces.result.now) c.loop-place.marks c.mark_traces.new.marks c.loop-place.invariant.room c.mark_traces.ensures;
}

pub returns-clause-names : goal.returns-clause-names
returns-clause-names c =
    let all : take c.loop-place.place c.args.book.now.book.days ≡ c.args.book.now.book.days = take_all c.loop-place.place c.args.book.now.book.days (omega (arith, c.days-days.ensures.count)) in
    marked_from_none (map number_of_name (segments_of by_number (all_traces c.args.book.now.book.days))) c.in_ok-marks.marks.names.items c.loop-place.marks.names.items c.in_ok-marks.ensures.names
    (subst (λ (l : List KeptDay). AddsMarks (map number_of_name (segments_of by_number (all_traces l))) c.in_ok-marks.marks.names.items c.loop-place.marks.names.items) all c.loop-place.invariant.more.names)

pub returns-clause-tasks : goal.returns-clause-tasks
returns-clause-tasks c =
    let all : take c.loop-place.place c.args.book.now.book.days ≡ c.args.book.now.book.days = take_all c.loop-place.place c.args.book.now.book.days (omega (arith, c.days-days.ensures.count)) in
    marked_from_none (map number_of_task (segments_of by_number (all_traces c.args.book.now.book.days))) c.in_ok-marks.marks.tasks.items c.loop-place.marks.tasks.items c.in_ok-marks.ensures.tasks
    (subst (λ (l : List KeptDay). AddsMarks (map number_of_task (segments_of by_number (all_traces l))) c.in_ok-marks.marks.tasks.items c.loop-place.marks.tasks.items) all c.loop-place.invariant.more.tasks)
