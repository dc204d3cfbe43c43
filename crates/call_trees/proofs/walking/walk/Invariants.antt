use Rattle.std.proofs.Common.{length, reverse}
use Rattle.call_trees.specs.Walks.{walk_through}
use Rattle.call_trees.proofs.WalkLemmas.{IsOnWalk}
use Rattle.call_trees.proofs.walking.walk.Given as goal

abbrev pub invariant-steps : goal.invariant-steps
invariant-steps l = IsOnWalk l.below l.roots l.walk.items l.stack.items

abbrev pub decreases-steps : goal.decreases-steps
decreases-steps l = length (walk_through l.below (reverse l.stack.items))
