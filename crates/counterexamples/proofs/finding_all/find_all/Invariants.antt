use Rattle.counterexamples.specs.inner.Tables.{AreFirstBefore}
use Rattle.counterexamples.proofs.finding_all.find_all.Given as goal

abbrev pub invariant-days : goal.invariant-days
invariant-days l = AreFirstBefore l.book l.words.items l.place 0
