use Rattle.counterexamples.proofs.DayLemmas.{SurvivesBefore}
use Rattle.counterexamples.proofs.searching.find.Given as goal

abbrev pub invariant-days : goal.invariant-days
invariant-days l = SurvivesBefore l.relation l.book.days l.place
