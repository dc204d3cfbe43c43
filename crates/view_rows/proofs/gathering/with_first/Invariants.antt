use Rattle.view_rows.proofs.GatheredLemmas.{MarksUpTo}
use Rattle.view_rows.proofs.gathering.with_first.Given as goal

abbrev pub invariant-loop-place : goal.invariant-loop-place
invariant-loop-place l = MarksUpTo l.count l.place l.initial.marks.items l.marks.items
