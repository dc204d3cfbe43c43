use Rattle.clock_offsets.specs.declared.places.End.TheVariants.{Sending, Receipt}
use Rattle.clock_offsets.proofs.PlaceLemmas.{messages_distinct, receipt_repeats}
use Rattle.clock_offsets.proofs.trace_offsets.index_senders.Goals as goal

pub returns-in-Ok-clause-once : goal.returns-in-Ok-clause-once
returns-in-Ok-clause-once c = (messages_distinct Sending c.args.trace.now.trace.events c.in_ok-senders.senders c.in_ok-senders.ensures.ok, messages_distinct Receipt c.args.trace.now.trace.events c.in-Ok._receivers c.in-Ok.ensures.ok)

pub returns-clause-err : goal.returns-clause-err
returns-clause-err c = λ other. receipt_repeats c.args.trace.now.trace.events c.in-Err.fault (messages_distinct Sending c.args.trace.now.trace.events c.in_ok-senders.senders c.in_ok-senders.ensures.ok) (c.in-Err.ensures.err other)
