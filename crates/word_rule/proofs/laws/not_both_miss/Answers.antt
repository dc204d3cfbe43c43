use Rattle.word_rule.proofs.MissLemmas.{not_both_miss}
use Rattle.word_rule.proofs.laws.not_both_miss.Goals as goal

pub returns : goal.returns
returns c = not_both_miss c.events_keep_sound.ensures c.row_is_same.ensures c.width_stays.ensures c.zeros_stay.ensures
