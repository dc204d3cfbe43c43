use Rattle.refute_picture.specs.Texts.{refutes_start}
use Rattle.refute_picture.proofs.texts.push_refutes_start.Goals as goal

pub returns : goal.returns
unfolding refutes_start
returns c = c.push_fixed.ensures
