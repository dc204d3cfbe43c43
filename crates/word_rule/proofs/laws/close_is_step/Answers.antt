use Rattle.word_rule.proofs.KindLemmas.{close_is_step}
use Rattle.word_rule.proofs.laws.close_is_step.Goals as goal

pub returns : goal.returns
returns c = close_is_step c.events_keep_sound.ensures
