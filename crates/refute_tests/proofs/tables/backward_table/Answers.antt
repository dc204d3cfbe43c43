use Rattle.std.proofs.Common.{◌∙◌}
use Rattle.refute_tests.proofs.OrderLemmas.{backward_first, backward_stays}
use Rattle.refute_tests.proofs.TableLemmas.{backward_rows}
use Rattle.refute_tests.proofs.tables.backward_table.Goals as goal

pub rows_table-requires-clause-first : goal.rows_table-requires-clause-first
rows_table-requires-clause-first c = backward_first c.args.grace c.args.starts.now c.requires.starts

pub rows_table-requires-clause-stays : goal.rows_table-requires-clause-stays
rows_table-requires-clause-stays c = backward_stays c.args.grace c.args.ends.now c.requires.ends

pub returns-clause-marked : goal.returns-clause-marked
returns-clause-marked c = λ p k h. c.in_ok-table.ensures.marked p k h ∙ backward_rows c.args.grace c.args.starts.now c.args.ends.now p k
