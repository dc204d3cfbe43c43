use Rattle.linked_groups.proofs.TreeLemmas.{joined_first, joined_second}
use Rattle.linked_groups.proofs.groups.join_names.Goals as goal

pub returns-then-one-other-clause-trees : goal.returns-then-one-other-clause-trees
returns-then-one-other-clause-trees c = λ groups h a b. joined_first c.args.next.now groups c.args.one c.args.other c.if-one-other.true c.requires.other h a b

pub returns-else-one-other-clause-trees : goal.returns-else-one-other-clause-trees
returns-else-one-other-clause-trees c = λ groups h a b. joined_second c.args.next.now groups c.args.one c.args.other c.if-one-other.false c.requires.one h a b
