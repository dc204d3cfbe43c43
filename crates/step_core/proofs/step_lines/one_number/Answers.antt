use Rattle.std.proofs.Common.{option_copied}
use Rattle.step_core.proofs.WordLemmas.{copied, not_one}
use Rattle.step_core.proofs.step_lines.one_number.Goals as goal

pub returns-then-is_some : goal.returns-then-is_some
returns-then-is_some c =
    not_one c.args.words.now c.first_part-part.result.first.now (option_copied c.first_part-part.result.rest) c.first_part-part.ensures.parts (copied c.first_part-part.result.rest c.is_some.result c.if-is_some.true c.is_some.ensures)
