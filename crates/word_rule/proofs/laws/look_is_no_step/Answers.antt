use Rattle.word_rule.proofs.KindLemmas.{look_is_no_step}
use Rattle.word_rule.proofs.laws.look_is_no_step.Goals as goal

pub returns : goal.returns
returns c = look_is_no_step
