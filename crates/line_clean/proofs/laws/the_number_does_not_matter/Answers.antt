use Rattle.line_clean.proofs.JudgingLemmas.{number_is_free}
use Rattle.line_clean.proofs.laws.the_number_does_not_matter.Goals as goal

pub returns : goal.returns
returns c = number_is_free
