use Rattle.name_laws.proofs.EndingLemmas.{endings_tell}
use Rattle.name_laws.proofs.laws.events_tell_endings.Goals as goal

pub returns : goal.returns
returns c = endings_tell
