use Rattle.call_trees.proofs.OrderLemmas.{indexed_more, indexes_more}
use Rattle.call_trees.proofs.ordering.pair_keys.Goals as goal

pub loop-at-preserved : goal.loop-at-preserved
loop-at-preserved g c = record {
  keys = indexed_more c.args.keys.now c.loop-at.pairs.items c.push.new.self.items c.index-keys-at.result c.loop-at.at c.loop-at-test.true c.index-keys-at.is c.in_ok-push.ensures.items c.loop-at.invariant.keys;
  indexes = indexes_more c.loop-at.pairs.items c.push.new.self.items c.index-keys-at.result c.loop-at.at c.in_ok-push.ensures.items c.loop-at.invariant.indexes;
}
