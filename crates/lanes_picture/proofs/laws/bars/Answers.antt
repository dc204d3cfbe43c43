use Rattle.std.proofs.Common.{arith}
use Rattle.lanes_picture.specs.Lanes.{end_of}
use Rattle.lanes_picture.proofs.laws.bars.Goals as goal

pub returns-clause-within : goal.returns-clause-within
returns-clause-within c full bar = c.spans.ensures.within bar.start (end_of bar) full

pub returns-clause-apart : goal.returns-clause-apart
returns-clause-apart c full first second le = c.spans.ensures.apart first.start (end_of first) second.start (end_of second) full (omega arith) le
