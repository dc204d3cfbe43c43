use Rattle.word_rule.proofs.KindLemmas.{tell_is_no_step}
use Rattle.word_rule.proofs.laws.tell_is_no_step.Goals as goal

pub returns : goal.returns
returns c = tell_is_no_step
