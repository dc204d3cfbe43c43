use Rattle.call_contexts.proofs.OrderLemmas.{titles_listed}
use Rattle.call_contexts.proofs.order.title_keys.Goals as goal

pub returns : goal.returns
returns c = titles_listed c.args.contexts.now c.loop-context.context-index c.loop-context.keys.items c.loop-context-test.false c.loop-context.invariant
