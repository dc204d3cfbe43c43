use Rattle.word_rule.proofs.KindLemmas.{clear_is_step}
use Rattle.word_rule.proofs.laws.clear_is_step.Goals as goal

pub returns : goal.returns
returns c = clear_is_step c.events_keep_sound.ensures c.complement_clears.ensures
