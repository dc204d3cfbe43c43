use Rattle.span_laws.proofs.SoundLemmas.{taken}
use Rattle.span_laws.proofs.laws.sound_lines_are_taken.Goals as goal

pub returns : goal.returns
returns c = taken
