use Rattle.clock_offsets.specs.inner.Places.{messages_at, AreIndices}
use Rattle.clock_offsets.proofs.places.index_messages.Given as goal

abbrev pub invariant-loop-at : goal.invariant-loop-at
invariant-loop-at l = AreIndices (messages_at l.end l.trace.trace.events) l.at l.places
