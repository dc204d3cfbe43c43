use Rattle.word_rows.proofs.MachineLemmas.{events_keep_sound}
use Rattle.word_rows.proofs.laws.events_keep_sound.Goals as goal

pub returns : goal.returns
returns c = events_keep_sound
