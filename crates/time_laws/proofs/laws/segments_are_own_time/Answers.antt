use Rattle.time_laws.proofs.SegmentLemmas.{segments_are_own_time}
use Rattle.time_laws.proofs.laws.segments_are_own_time.Goals as goal

pub returns : goal.returns
returns c = segments_are_own_time
