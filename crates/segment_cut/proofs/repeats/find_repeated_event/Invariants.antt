use Rattle.segment_cut.proofs.RepeatLemmas.{AreSeenTo}
use Rattle.segment_cut.proofs.repeats.find_repeated_event.Given as goal

abbrev pub invariant-loop-at : goal.invariant-loop-at
invariant-loop-at l = AreSeenTo l.trace.texts.names l.trace.trace.events l.tasks l.at l.seen
