use Rattle.model_meet.specs.inner.Beside.{AreExclusionsBeside, AreOrdersBeside}
use Rattle.model_meet.proofs.counts.count_beside.Given as goal

abbrev pub invariant-loop-other : goal.invariant-loop-other
invariant-loop-other l = record {
  orders : AreOrdersBeside l.model.words l.name l.other l.hb;
  exclusions : AreExclusionsBeside l.model.words l.model.names l.name l.other l.mx;
}
