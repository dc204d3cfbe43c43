use Rattle.call_contexts.proofs.OrderLemmas.{above_listed}
use Rattle.call_contexts.proofs.order.list_above.Goals as goal

pub returns : goal.returns
returns c = above_listed c.args.contexts.now c.loop-context.context-index c.loop-context.above.items c.loop-context-test.false c.loop-context.invariant
