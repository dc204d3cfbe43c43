use Rattle.std.proofs.Common.{get_or, subst}
use Rattle.linked_groups.specs.Groups.{groups_with}
use Rattle.linked_groups.specs.inner.Trees.{AreTrees}
use Rattle.linked_groups.proofs.groups.join_groups.Goals as goal

pub returns-clause-trees : goal.returns-clause-trees
returns-clause-trees c = λ groups h.
    let one = c.find_name-one.ensures in
    let other = c.find_name-other.ensures in
    let first = one.trees groups h in
    let second = other.trees groups first in
    subst (λ m. AreTrees c.join_names.new.next (groups_with groups (get_or groups c.args.link.0 0) m)) (other.name groups first)
    (subst (λ m. AreTrees c.join_names.new.next (groups_with groups m c.find_name-other.result)) (one.name groups h)
    (c.join_names.ensures.trees groups second (one.last groups h) (other.last groups first)))
