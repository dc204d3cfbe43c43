use Rattle.linked_groups.proofs.TreeLemmas.{numbers_more}
use Rattle.linked_groups.proofs.groups.all_numbers.Goals as goal

pub loop-at-preserved : goal.loop-at-preserved
loop-at-preserved c = numbers_more c.loop-at.numbers.items c.push.new.self.items c.loop-at.at c.loop-at.invariant c.in_ok-push.ensures.items
