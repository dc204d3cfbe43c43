use Rattle.std.proofs.Common.{◌≡◌, ◌∷◌, ◌++◌, [], ◌∙◌, ℕ, List, Some, None, ap, subst, sym}
use Rattle.std.specs.BTreeMap.{get}
use Rattle.event_table.specs.inner.Growth.{with_text}
use Rattle.event_table.specs.inner.TextNumbers.{key_cmp, number_in}
use Rattle.event_table.proofs.TextLemmas.{with_known}
use Rattle.event_table.proofs.TextNumberLemmas.{appended, known_there, numbered_last}
use Rattle.event_table.proofs.text_table.TextTable.insert.Goals as goal

pub returns-in-Some-clause-number : goal.returns-in-Some-clause-number
returns-in-Some-clause-number c = known_there c.self.inside.texts.items c.args.self.now c.self.inside.numbers c.self.view_is c.self.invariant c.args.text c.text_key-key.result c.in-Some.number c.text_key-key.ensures c.in-Some.ensures.found

pub returns-in-Some-clause-texts : goal.returns-in-Some-clause-texts
returns-in-Some-clause-texts c = with_known c.args.self.now c.in-Some.number c.args.text (returns-in-Some-clause-number c)

pub returns-clause-texts : goal.returns-clause-texts
returns-clause-texts c = appended c.self.inside.texts.items c.args.self.now c.append_text.new.texts.items c.self.inside.numbers c.self.view_is c.self.invariant c.args.text c.text_key-key.result c.text_key-key.ensures c.in_default.ensures.absent c.append_text.result c.append_text.ensures.texts

pub returns-clause-number : goal.returns-clause-number
returns-clause-number c = numbered_last c.self.inside.texts.items c.append_text.new.texts.items c.args.text c.text_key-key.result c.text_key-key.ensures c.append_text.result c.append_text.ensures.texts c.append_text.ensures.number
