use Rattle.word_rule.proofs.KindLemmas.{skip_is_step}
use Rattle.word_rule.proofs.laws.skip_is_step.Goals as goal

pub returns : goal.returns
returns c = skip_is_step c.events_keep_sound.ensures
