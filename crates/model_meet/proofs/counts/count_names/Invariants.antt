use Rattle.model_meet.specs.inner.Beside.{AreExclusionsBelow, AreOrdersBelow}
use Rattle.model_meet.proofs.counts.count_names.Given as goal

abbrev pub invariant-loop-name : goal.invariant-loop-name
invariant-loop-name l = record {
  orders : AreOrdersBelow l.model.words l.name l.hb;
  exclusions : AreExclusionsBelow l.model.words l.model.names l.name l.mx;
}
