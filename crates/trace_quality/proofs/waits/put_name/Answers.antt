use Rattle.trace_quality.proofs.NameLemmas.{name_put}
use Rattle.trace_quality.proofs.waits.put_name.Goals as goal

pub returns : goal.returns
returns c = name_put c.args.raw.now c.args.at c.args.named.now c.insert.new.self (c.task.result, c.event.result) c.state_texts_differ.ensures.tasks c.state_texts_differ.ensures.names c.task.ensures c.event.ensures c.in_ok-insert.ensures.updates.0
