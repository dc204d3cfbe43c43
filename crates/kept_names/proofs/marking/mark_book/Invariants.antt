use Rattle.std.proofs.Common.{take}
use Rattle.day_partitions.specs.Books.{all_traces}
use Rattle.kept_names.specs.Marking.{HaveRoom, MarksMore}
use Rattle.trace_types.specs.Parts.{by_number, segments_of}
use Rattle.kept_names.proofs.marking.mark_book.Given as goal

abbrev pub invariant-loop-place : goal.invariant-loop-place
invariant-loop-place l = record {
  more : MarksMore (segments_of by_number (all_traces (take l.place l.book.book.days))) l.initial.marks l.marks;
  room : HaveRoom l.marks;
}
