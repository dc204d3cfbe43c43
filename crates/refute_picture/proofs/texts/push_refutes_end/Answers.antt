use Rattle.refute_picture.specs.Texts.{refutes_end}
use Rattle.refute_picture.proofs.texts.push_refutes_end.Goals as goal

pub returns : goal.returns
unfolding refutes_end
returns c = c.push_fixed.ensures
