use Rattle.std.proofs.Common.{◌≡◌, take}
use Rattle.call_trees.specs.inner.IndexedKeys.{indexes_of}
use Rattle.call_trees.proofs.ordering.take_indexes.Given as goal

abbrev pub invariant-loop-pair : goal.invariant-loop-pair
invariant-loop-pair g l = l.order.items ≡ indexes_of (take l.pair-index l.pairs)
