use Rattle.std.proofs.Common.{arith}
use Rattle.refute_tests.proofs.MarkLemmas.{none_below, all_below, some_below}
use Rattle.refute_tests.proofs.marks.word_below.Goals as goal

pub returns-then-first-greater : goal.returns-then-first-greater
returns-then-first-greater c = none_below c.args.marks.now c.args.word c.args.greater (omega arith)

pub returns-then-names-ge16 : goal.returns-then-names-ge16
returns-then-names-ge16 c = all_below c.args.marks.now c.args.word c.args.greater (omega arith)

pub returns : goal.returns
returns c = some_below c.args.marks.now c.args.word c.args.greater (omega arith) (omega arith)
