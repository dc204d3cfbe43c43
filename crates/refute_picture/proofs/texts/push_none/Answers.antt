use Rattle.refute_picture.specs.Texts.{none_text}
use Rattle.refute_picture.proofs.texts.push_none.Goals as goal

pub returns : goal.returns
unfolding none_text
returns c = c.push_fixed.ensures
