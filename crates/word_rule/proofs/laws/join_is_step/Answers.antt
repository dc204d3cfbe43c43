use Rattle.word_rule.proofs.KindLemmas.{join_is_step}
use Rattle.word_rule.proofs.laws.join_is_step.Goals as goal

pub returns : goal.returns
returns c = join_is_step c.events_keep_sound.ensures
