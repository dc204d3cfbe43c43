use Rattle.std.proofs.Common.{option_copied}
use Rattle.step_core.proofs.WordLemmas.{copied, not_two}
use Rattle.step_core.proofs.step_lines.two_numbers.Goals as goal

pub returns-then-is_some : goal.returns-then-is_some
returns-then-is_some c =
    not_two c.args.words.now c.first_part-part.result.first.now c.first_part-second.result.first.now c.in_ok-part.field-0.now (option_copied c.first_part-second.result.rest) (rw c.in_ok-part.was at c.first_part-part.ensures.parts) c.first_part-second.ensures.parts
    (copied c.first_part-second.result.rest c.is_some.result c.if-is_some.true c.is_some.ensures)
