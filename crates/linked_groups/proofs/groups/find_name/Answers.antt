use Rattle.std.proofs.Common.{◌∙◌, arith, get_or}
use Rattle.std.proofs.lemmas.List.{length-set}
use Rattle.linked_groups.proofs.TreeLemmas.{after_same, shorter_falls, shorter_low, shorter_trees}
use Rattle.linked_groups.proofs.groups.find_name.Goals as goal

pub down-preserved : goal.down-preserved
down-preserved c =
    let next = c.down.next in
    let at = c.down.at in
    let lt = c.down.invariant.within in
    let falls = c.down.invariant.falls in
    record {
      size = length-set next at (get_or next (get_or next at 0) 0) ∙ c.down.invariant.size;
      within = omega (arith, shorter_low next at lt falls, lt, length-set next at (get_or next (get_or next at 0) 0));
      falls = shorter_falls next at lt falls;
      trees = λ groups h. shorter_trees next at lt falls c.down-test.true groups (c.down.invariant.trees groups h);
      same = λ groups h. after_same next at lt falls c.down-test.true groups (c.down.invariant.trees groups h) ∙ c.down.invariant.same groups h;
    }
