use Rattle.std.proofs.Common.{take}
use Rattle.trace_types.specs.Events.{receipts_of}
use Rattle.trace_quality.specs.inner.MessageSets.{AreAmong}
use Rattle.trace_quality.proofs.messages.gather_receipts.Given as goal

-- those of the events so far
abbrev pub invariant-events : goal.invariant-events
invariant-events l = AreAmong l.messages (take l.at (receipts_of l.raw.trace.events))
