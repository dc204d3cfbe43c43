use Rattle.import_laws.proofs.WaitLaws.{no_waits}
use Rattle.import_laws.proofs.laws.nothing_waits.Goals as goal

pub returns : goal.returns
returns c = no_waits
