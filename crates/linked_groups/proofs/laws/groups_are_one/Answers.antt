use Rattle.linked_groups.proofs.GroupLemmas.{one_grouping}
use Rattle.linked_groups.proofs.laws.groups_are_one.Goals as goal

pub returns : goal.returns
returns c = one_grouping
