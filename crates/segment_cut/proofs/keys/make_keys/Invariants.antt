use Rattle.segment_cut.proofs.MadeLemmas.{AreKeysTo}
use Rattle.segment_cut.proofs.keys.make_keys.Given as goal

abbrev pub invariant-loop-at : goal.invariant-loop-at
invariant-loop-at l = AreKeysTo l.tasks l.trace.trace.events l.at l.keys.items
