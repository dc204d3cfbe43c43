use Rattle.refute_tests.proofs.TableLemmas.{none_named}
use Rattle.refute_tests.proofs.tables.named_marks.Goals as goal

pub loop-segment-init : goal.loop-segment-init
loop-segment-init c = λ n k h. none_named n k
