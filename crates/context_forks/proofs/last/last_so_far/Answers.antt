use Rattle.context_forks.proofs.PartnerLemmas.{last_more}
use Rattle.context_forks.proofs.last.last_so_far.Goals as goal

pub loop-at-preserved : goal.loop-at-preserved
loop-at-preserved c = last_more c.args.calls.now c.args.below.now c.loop-at.at c.loop-at.best c.loop-at.last.items c.last_with-new.result c.push.new.self.items c.loop-at-test.true c.requires c.loop-at.invariant c.last_with-new.ensures c.in_ok-push.ensures.items
