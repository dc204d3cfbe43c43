use Rattle.word_rule.proofs.KindLemmas.{split_is_step}
use Rattle.word_rule.proofs.laws.split_is_step.Goals as goal

pub returns : goal.returns
returns c = split_is_step c.events_keep_sound.ensures
