use Rattle.picture_parts.specs.Names.{isolated_text}
use Rattle.picture_parts.proofs.names.push_isolated.Goals as goal

pub returns : goal.returns
unfolding isolated_text
returns c = rw c.as_str.ensures at c.push_pieces.ensures
