use Rattle.trace_types.specs.Events.{receipts_of, sends_of}
use Rattle.trace_quality.proofs.MessageLemmas.{AreCounted}
use Rattle.trace_quality.proofs.messages.count_received.Given as goal

-- those of the events so far
abbrev pub invariant-events : goal.invariant-events
invariant-events l = AreCounted (sends_of l.raw.trace.events) (receipts_of l.raw.trace.events) l.at l.counts.all l.counts.alone
