use Rattle.std.proofs.Common.{refl, arith}
use Rattle.trace_types.specs.Times.{AreTimely}
use Rattle.trace_types.specs.Batch.{PlainTrace}
use Rattle.event_table.proofs.LimitLemmas.{have_one_more}
use Rattle.event_table.proofs.gathered_events.GatheredEvents.is_timely.Goals as goal

pub loop-index-preserved : goal.loop-index-preserved
loop-index-preserved c = have_one_more (λ (t : PlainTrace). AreTimely t.events) c.args.self.now.traces c.loop-index.index c.trace.result.trace c.loop-index.invariant c.trace.ensures.trace (c.is_timely.ensures.0 c.if-not-is_timely.false)

pub returns : goal.returns
returns c = (λ yes k d within. c.loop-index.invariant k d (omega (arith, within)) within, λ all. refl)
