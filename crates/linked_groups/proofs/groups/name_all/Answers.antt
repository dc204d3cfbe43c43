use Rattle.std.proofs.Common.{arith}
use Rattle.linked_groups.proofs.TreeLemmas.{names_more}
use Rattle.linked_groups.proofs.groups.name_all.Goals as goal

pub loop-at-preserved : goal.loop-at-preserved
loop-at-preserved c = record {
  size = omega (arith, c.find_name.auto.next, c.loop-at.invariant.size);
  falls = c.find_name.ensures.falls;
  trees = λ groups h. c.find_name.ensures.trees groups (c.loop-at.invariant.trees groups h);
  names = λ groups h. names_more c.loop-at.names.items c.push.new.self.items groups c.loop-at.at c.find_name.result (omega (arith, h.size, c.loop-at-test.true))
      (c.loop-at.invariant.names groups h) (c.find_name.ensures.name groups (c.loop-at.invariant.trees groups h)) c.in_ok-push.ensures.items;
}
