use Rattle.std.proofs.Common.{map}
use Rattle.critical_path.proofs.WalkLemmas.{IsWalk, walk_left}
use Rattle.critical_path.proofs.walk.walk.Given as goal

abbrev pub invariant-chain : goal.invariant-chain
invariant-chain g l =
    IsWalk l.dag (map g.L.Length.value l.lengths) (g.L.Length.value l.fn.longest) l.vertices.items (g.L.Length.value l.left) l.next

abbrev pub decreases-chain : goal.decreases-chain
decreases-chain g l = walk_left l.dag l.next
