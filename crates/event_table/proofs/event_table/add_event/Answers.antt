use Rattle.event_table.specs.Numbers.{event_of}
use Rattle.event_table.proofs.TableLemmas.{one_more, one_more_seen}
use Rattle.event_table.proofs.event_table.add_event.Goals as goal

pub returns-clause-table : goal.returns-clause-table
returns-clause-table c =
    let at = c.in_ok-numbers in
    one_more c.args.texts.now c.numbers_of.new.texts c.args.messages.now c.numbers_of.new.messages at.ensures.texts at.ensures.messages c.args.events.now.items c.push.new.self.items c.requires.table at.numbers c.in_ok-push.ensures.items at.ensures.within

pub returns-clause-events : goal.returns-clause-events
returns-clause-events c =
    let at = c.in_ok-numbers in
    one_more_seen c.args.texts.now c.numbers_of.new.texts c.args.messages.now c.numbers_of.new.messages at.ensures.texts at.ensures.messages c.args.events.now.items c.push.new.self.items c.requires.table at.numbers c.in_ok-push.ensures.items (event_of c.args.line c.args.fields.now) at.ensures.event
