use Rattle.counterexamples.proofs.TableLemmas.{ChosenBelow}
use Rattle.counterexamples.proofs.word_refuters.choose.Given as goal

abbrev pub invariant-bits : goal.invariant-bits
invariant-bits l = ChosenBelow l.fn.findings l.bits l.finding l.bit l.findings
