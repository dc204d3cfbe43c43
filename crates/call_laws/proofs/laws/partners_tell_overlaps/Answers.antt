use Rattle.call_laws.proofs.OverlapLemmas.{partners_tell}
use Rattle.call_laws.proofs.laws.partners_tell_overlaps.Goals as goal

pub returns : goal.returns
returns c = partners_tell
