use Rattle.room_picture.specs.Texts.{key_text}
use Rattle.room_picture.proofs.texts.push_key.Goals as goal

pub returns : goal.returns
unfolding key_text
returns c = c.push_fixed.ensures
