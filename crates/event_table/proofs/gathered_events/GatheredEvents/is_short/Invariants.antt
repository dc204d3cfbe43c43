use Rattle.std.specs.Prelude.{◌<◌, ◌^◌, length}
use Rattle.trace_types.specs.Batch.{PlainTrace}
use Rattle.event_table.proofs.LimitLemmas.{HaveUpTo}
use Rattle.event_table.proofs.gathered_events.GatheredEvents.is_short.Given as goal

-- the traces so far are within the limit
abbrev pub invariant-loop-index : goal.invariant-loop-index
invariant-loop-index l = HaveUpTo (λ (t : PlainTrace). length t.events < 2 ^ 32) l.self.traces l.index
