use Rattle.std.proofs.Common.{List, take}
use Rattle.pipeline_tests.specs.inner.Meetings.{AreMeetings, IsSharing, Meeting}
use Rattle.pipeline_tests.proofs.meetings.compare.Given as goal

abbrev pub invariant-loop-stay : goal.invariant-loop-stay
invariant-loop-stay l = (met : List Meeting) × AreMeetings (take l.stay-index l.low) l.high met × IsSharing l.grace met l.sharing
