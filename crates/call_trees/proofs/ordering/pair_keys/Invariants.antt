use Rattle.std.proofs.Common.{◌≡◌}
use Rattle.std.specs.List.{range_with_len}
use Rattle.call_trees.specs.inner.IndexedKeys.{AreIndexed, indexes_of}
use Rattle.call_trees.proofs.ordering.pair_keys.Given as goal

-- the keys so far have their indexes
abbrev pub invariant-loop-at : goal.invariant-loop-at
invariant-loop-at g l = record {
  keys : AreIndexed l.keys l.pairs.items;
  indexes : indexes_of l.pairs.items ≡ range_with_len 0 l.at;
}
