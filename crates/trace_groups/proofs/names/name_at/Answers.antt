use Rattle.trace_groups.proofs.NameLemmas.{named_at}
use Rattle.trace_groups.proofs.names.name_at.Goals as goal

pub returns : goal.returns
returns c = named_at c.args.raw.now.texts c.args.raw.now.trace c.args.at c.task.result c.event.result c.task.ensures c.event.ensures
