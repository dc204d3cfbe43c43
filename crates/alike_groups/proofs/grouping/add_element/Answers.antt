use Rattle.std.proofs.Common.{◌∙◌, ap}
use Rattle.std.specs.Map.{keys_of}
use Rattle.indexmap.proofs.SetLemmas.{keys_insert_entry}
use Rattle.alike_groups.proofs.grouping.add_element.Goals as goal

pub returns-clause-keys : goal.returns-clause-keys
returns-clause-keys g c = ap keys_of c.in_ok-insert.ensures.entries ∙ keys_insert_entry g.K.PartialEq.eq c.args.groups.now.entries c.args.key c.group_with-group.result
