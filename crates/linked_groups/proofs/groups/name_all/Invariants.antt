use Rattle.std.proofs.Common.{◌≡◌, List, ℕ, length, take}
use Rattle.linked_groups.specs.inner.Trees.{AreFalling, AreTrees}
use Rattle.linked_groups.proofs.groups.name_all.Given as goal

-- the names of the numbers so far
abbrev pub invariant-loop-at : goal.invariant-loop-at
invariant-loop-at l = record {
  size : length l.next ≡ length l.initial.next;
  falls : AreFalling l.next;
  trees : (groups : List ℕ) → AreTrees l.initial.next groups → AreTrees l.next groups;
  names : (groups : List ℕ) → AreTrees l.initial.next groups → l.names.items ≡ take l.at groups;
}
