use Rattle.std.proofs.Common.{take}
use Rattle.kept_names.specs.Marking.{MarksMore}
use Rattle.kept_names.proofs.marking.mark_trace.Given as goal

abbrev pub invariant-loop-segment : goal.invariant-loop-segment
invariant-loop-segment l = MarksMore (take l.segment-index l.segment-items) l.initial.marks l.marks
