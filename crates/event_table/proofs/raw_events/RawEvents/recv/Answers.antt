use Rattle.std.proofs.Common.{List, ℕ, ap, ◌∙◌}
use Rattle.event_table.specs.Numbers.{message_under}
use Rattle.event_table.proofs.LookLemmas.{receipt_there}
use Rattle.event_table.proofs.raw_events.RawEvents.recv.Goals as goal

pub returns : goal.returns
returns c =
    c.message.ensures ∙ ap (λ (ms : List (List ℕ)). message_under ms c.event_at.result.now.recv) c.receipts.ensures
    ∙ receipt_there c.self.inside.texts.now c.self.inside.messages.now c.self.inside.events.now c.args.self.now c.self.view_is c.args.at c.event_at.result.now c.event_at.ensures
