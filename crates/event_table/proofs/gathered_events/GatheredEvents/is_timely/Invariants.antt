use Rattle.trace_types.specs.Times.{AreTimely}
use Rattle.trace_types.specs.Batch.{PlainTrace}
use Rattle.event_table.proofs.LimitLemmas.{HaveUpTo}
use Rattle.event_table.proofs.gathered_events.GatheredEvents.is_timely.Given as goal

-- the traces so far are within the limit
abbrev pub invariant-loop-index : goal.invariant-loop-index
invariant-loop-index l = HaveUpTo (λ (t : PlainTrace). AreTimely t.events) l.self.traces l.index
