use Rattle.std.proofs.Common.{option_copied}
use Rattle.step_core.proofs.WordLemmas.{copied, not_entry}
use Rattle.step_core.proofs.rows.read_entry.Goals as goal

pub returns-then-is_some : goal.returns-then-is_some
returns-then-is_some c =
    not_entry c.args.word.now c.first_part-part.result.first.now c.first_part-mask.result.first.now c.in_ok-part.field-0.now (option_copied c.first_part-mask.result.rest) (rw c.in_ok-part.was at c.first_part-part.ensures.parts) c.first_part-mask.ensures.parts
    (copied c.first_part-mask.result.rest c.is_some.result c.if-is_some.true c.is_some.ensures)
