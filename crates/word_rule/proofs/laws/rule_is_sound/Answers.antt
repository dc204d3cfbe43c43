use Rattle.word_rule.proofs.KindLemmas.{rule_is_sound}
use Rattle.word_rule.proofs.laws.rule_is_sound.Goals as goal

pub returns : goal.returns
returns c = rule_is_sound c.events_keep_sound.ensures
