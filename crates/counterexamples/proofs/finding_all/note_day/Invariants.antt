use Rattle.counterexamples.specs.inner.Tables.{AreFirstBefore}
use Rattle.counterexamples.proofs.finding_all.note_day.Given as goal

abbrev pub invariant-traces : goal.invariant-traces
invariant-traces l = AreFirstBefore l.book l.words l.place l.index
