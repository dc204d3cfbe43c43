use Rattle.trace_quality.proofs.MessageLemmas.{message_put}
use Rattle.trace_quality.proofs.messages.put_message.Goals as goal

pub returns-in_ok-insert : goal.returns-in_ok-insert
returns-in_ok-insert c = rw c.in-Some.is (message_put c.args.messages.now c.insert.new.self c.in-Some.message c.in_ok-insert.ensures.updates.0)
