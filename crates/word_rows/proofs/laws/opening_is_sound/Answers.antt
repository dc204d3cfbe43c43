use Rattle.word_rows.proofs.MachineLemmas.{opening_is_sound}
use Rattle.word_rows.proofs.laws.opening_is_sound.Goals as goal

pub returns : goal.returns
returns c = opening_is_sound
