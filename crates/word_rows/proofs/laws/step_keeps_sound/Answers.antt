use Rattle.word_rows.proofs.MachineLemmas.{step_keeps_sound}
use Rattle.word_rows.proofs.laws.step_keeps_sound.Goals as goal

pub returns : goal.returns
returns c = step_keeps_sound
