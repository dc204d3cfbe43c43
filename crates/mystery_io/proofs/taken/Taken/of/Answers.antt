use Rattle.mystery_io.specs.Taken.{bytes_of}
use Rattle.mystery_io.proofs.taken.Taken.of.Goals as goal

pub returns : goal.returns
unfolding bytes_of
returns c = c.add.ensures
