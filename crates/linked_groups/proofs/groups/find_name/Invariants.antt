use Rattle.std.proofs.Common.{◌≡◌, ◌<◌, List, ℕ, get_or, length}
use Rattle.linked_groups.specs.inner.Trees.{AreFalling, AreTrees}
use Rattle.linked_groups.proofs.groups.find_name.Given as goal

-- the way so far leads within the group
abbrev pub invariant-down : goal.invariant-down
invariant-down l = record {
  size : length l.next ≡ length l.initial.next;
  within : l.at < length l.next;
  falls : AreFalling l.next;
  trees : (groups : List ℕ) → AreTrees l.initial.next groups → AreTrees l.next groups;
  same : (groups : List ℕ) → AreTrees l.initial.next groups → get_or groups l.at 0 ≡ get_or groups l.number 0;
}

abbrev pub decreases-down : goal.decreases-down
decreases-down l = l.at
