use Rattle.event_table.proofs.TextLemmas.{with_known}
use Rattle.event_table.proofs.text_table.TextTable.find_or_add.Goals as goal

pub returns-in-Some-clause-texts : goal.returns-in-Some-clause-texts
returns-in-Some-clause-texts c = with_known c.args.self.now c.in-Some.number c.args.text.now c.in-Some.ensures
