use Rattle.std.proofs.Common.{◌≡◌, length, take}
use Rattle.linked_groups.specs.Groups.{groups_of}
use Rattle.linked_groups.specs.inner.Trees.{AreTrees}
use Rattle.linked_groups.proofs.groups.join_all.Given as goal

-- the groups by the links so far
abbrev pub invariant-loop-at : goal.invariant-loop-at
invariant-loop-at l = record {
  size : length l.next ≡ length l.initial.next;
  trees : AreTrees l.next (groups_of (length l.initial.next) (take l.at l.links));
}
