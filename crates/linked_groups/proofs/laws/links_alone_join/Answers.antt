use Rattle.linked_groups.proofs.GroupLemmas.{links_join}
use Rattle.linked_groups.proofs.laws.links_alone_join.Goals as goal

pub returns : goal.returns
returns c = links_join
