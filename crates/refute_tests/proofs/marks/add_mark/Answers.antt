use Rattle.std.proofs.Common.{arith}
use Rattle.refute_tests.proofs.MarkLemmas.{add_one}
use Rattle.refute_tests.proofs.marks.add_mark.Goals as goal

pub returns : goal.returns
returns c = λ n k h. add_one c.args.marks.now c.args.name c.args.mark n k (omega arith) c.requires.mark h
