use Rattle.std.proofs.Common.{◌≡◌, ◌<◌, ◌-◌, length, drop, slice_get}
use Rattle.event_table.specs.inner.Groups.{groups_of_blocks}
use Rattle.event_table.proofs.groups.group_at.Given as goal

-- in the blocks that are left the group has the index that is left
abbrev pub invariant-loop-left : goal.invariant-loop-left
invariant-loop-left l = record {
  within : l.left < length (groups_of_blocks (drop l.at l.blocks));
  same : slice_get (groups_of_blocks l.blocks) l.index ≡ slice_get (groups_of_blocks (drop l.at l.blocks)) l.left;
}

abbrev pub decreases-loop-left : goal.decreases-loop-left
decreases-loop-left l = length l.blocks - l.at
