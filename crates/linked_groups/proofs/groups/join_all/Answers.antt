use Rattle.std.proofs.Common.{refl}
use Rattle.linked_groups.proofs.TreeLemmas.{alone}
use Rattle.linked_groups.proofs.groups.join_all.Goals as goal

pub loop-at-init : goal.loop-at-init
loop-at-init c = record { size = refl; trees = alone c.args.next.now c.requires.first }
