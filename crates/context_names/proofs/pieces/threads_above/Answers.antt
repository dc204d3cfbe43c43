use Rattle.context_names.proofs.OrderLemmas.{above_low}
use Rattle.std.proofs.Common.{get_or, length}
use Rattle.context_names.proofs.pieces.threads_above.Goals as goal

pub thread_above-requires : goal.thread_above-requires
thread_above-requires c =
    above_low c.args.contexts.now (get_or c.args.list.now c.loop-number.number-index 0) _ (length c.args.threads.now) c.requires.above (c.requires.within c.loop-number.number-index 0 c.loop-number-test.true) c.requires.same
