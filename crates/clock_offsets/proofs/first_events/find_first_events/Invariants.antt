use Rattle.clock_offsets.specs.inner.Numbers.{texts_in}
use Rattle.clock_offsets.proofs.FirstEventLemmas.{AreFirstsTo}
use Rattle.clock_offsets.proofs.first_events.find_first_events.Given as goal

abbrev pub invariant-loop-at : goal.invariant-loop-at
invariant-loop-at l = AreFirstsTo (texts_in l.field l.trace.texts) l.field l.trace.trace.events l.at l.firsts.items l.places
