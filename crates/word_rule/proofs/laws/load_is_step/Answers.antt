use Rattle.word_rule.proofs.KindLemmas.{load_is_step}
use Rattle.word_rule.proofs.laws.load_is_step.Goals as goal

pub returns : goal.returns
returns c = load_is_step c.events_keep_sound.ensures
