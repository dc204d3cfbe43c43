use Rattle.std.proofs.Common.{take}
use Rattle.kept_names.specs.Marking.{MarksMore}
use Rattle.trace_types.specs.Parts.{by_number, segments_of}
use Rattle.kept_names.proofs.marking.mark_traces.Given as goal

abbrev pub invariant-loop-trace : goal.invariant-loop-trace
invariant-loop-trace l = MarksMore (segments_of by_number (take l.trace-index l.traces)) l.initial.marks l.marks
