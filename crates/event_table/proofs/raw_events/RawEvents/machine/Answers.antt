use Rattle.event_table.proofs.LookLemmas.{index_within, machine_there}
use Rattle.event_table.proofs.raw_events.RawEvents.machine.Goals as goal

pub event_at-requires : goal.event_at-requires
event_at-requires c = index_within c.self.inside.texts.now c.self.inside.messages.now c.self.inside.events.now c.args.self.now c.self.view_is c.args.at c.requires

pub returns : goal.returns
returns c = machine_there c.self.inside.texts.now c.self.inside.messages.now c.self.inside.events.now c.args.self.now c.self.view_is c.args.at c.event_at.result.now c.event_at.ensures c.self.invariant.1
