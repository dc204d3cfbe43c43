use Rattle.std.proofs.Common.{◌∙◌}
use Rattle.refute_tests.proofs.OrderLemmas.{forward_first, forward_stays}
use Rattle.refute_tests.proofs.TableLemmas.{forward_rows}
use Rattle.refute_tests.proofs.tables.forward_table.Goals as goal

pub rows_table-requires-clause-first : goal.rows_table-requires-clause-first
rows_table-requires-clause-first c = forward_first c.args.grace c.args.ends.now c.requires.ends

pub rows_table-requires-clause-stays : goal.rows_table-requires-clause-stays
rows_table-requires-clause-stays c = forward_stays c.args.grace c.args.starts.now c.requires.starts

pub returns-clause-marked : goal.returns-clause-marked
returns-clause-marked c = λ p k h. c.in_ok-table.ensures.marked p k h
    ∙ forward_rows c.args.grace c.args.ends.now c.args.starts.now c.named_marks-marks.result p k (λ n. c.named_marks-marks.ensures n k h)
