use Rattle.mystery_io.proofs.HonestLemmas.{honest}
use Rattle.mystery_io.proofs.laws.honest_files_give_contents.Goals as goal

pub returns : goal.returns
returns c = honest
