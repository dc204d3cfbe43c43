use Rattle.std.proofs.Common.{arith}
use Rattle.hypothesis_index.proofs.PairLemmas.{early, pairs_below-64, pairs_below-512}
use Rattle.hypothesis_index.proofs.ReadingLemmas.{outside, outside_bit, task_back, name_back}
use Rattle.hypothesis_index.proofs.reading.unplace.Goals as goal
use Rattle.hypothesis_index.proofs.reading.unplace.Goals.{then-place-ge64-via-then-place-ge64, then-place-ge64-via-else-place-ge64+then-place-ge-ALL_WORDS}

pub returns-then-place-ge64-clause-finds : goal.returns-then-place-ge64-clause-finds
returns-then-place-ge64-clause-finds c = λ r v e. elim c.then-place-ge64.branch [
  | then-place-ge64-via-then-place-ge64 w ↦ outside_bit c.args.place r v e w.if-place-ge64.true
  | then-place-ge64-via-else-place-ge64+then-place-ge-ALL_WORDS w ↦ outside c.args.place r v e w.if-place-ge-ALL_WORDS.true
]

pub task_relation-requires-clause-small : goal.task_relation-requires-clause-small
task_relation-requires-clause-small c = early c.unpair-low.result.0 c.unpair-low.result.1 64 (omega (arith, pairs_below-64))

pub name_relation-requires-clause-small : goal.name_relation-requires-clause-small
name_relation-requires-clause-small c = let u = c.unpair-low-else-place-lt-TASK_WORDS in early u.result.0 u.result.1 512 (omega (arith, pairs_below-512))

pub returns-then-place-lt-TASK_WORDS-clause-finds : goal.returns-then-place-lt-TASK_WORDS-clause-finds
returns-then-place-lt-TASK_WORDS-clause-finds c = task_back c.task_relation.result c.unpair-low.result.0 c.unpair-low.result.1 c.args.place (omega arith) (omega arith) c.unpair-low.ensures.same c.task_relation.ensures

pub returns-else-place-lt-TASK_WORDS-clause-finds : goal.returns-else-place-lt-TASK_WORDS-clause-finds
returns-else-place-lt-TASK_WORDS-clause-finds c = let u = c.unpair-low-else-place-lt-TASK_WORDS in name_back c.name_relation.result u.result.0 u.result.1 c.args.place (omega arith) (omega arith) u.ensures.same c.name_relation.ensures
