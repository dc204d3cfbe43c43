use Rattle.std.proofs.Common.{subst}
use Rattle.event_table.specs.Texts.{AreDifferent}
use Rattle.event_table.proofs.TextLemmas.{numbers_apart}
use Rattle.event_table.proofs.TextNumberLemmas.{all_differ}
use Rattle.event_table.proofs.text_table.TextTable.tell_texts_apart.Goals as goal

pub returns-clause-differ : goal.returns-clause-differ
returns-clause-differ c = subst AreDifferent c.self.view_is (all_differ c.self.inside.texts.items c.self.inside.numbers c.self.invariant)

pub returns-clause-numbers : goal.returns-clause-numbers
returns-clause-numbers c = numbers_apart c.args.self.now (subst AreDifferent c.self.view_is (all_differ c.self.inside.texts.items c.self.inside.numbers c.self.invariant))
