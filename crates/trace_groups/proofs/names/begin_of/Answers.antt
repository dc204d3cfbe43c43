use Rattle.trace_groups.proofs.NameLemmas.{begin_tells}
use Rattle.trace_groups.proofs.names.begin_of.Goals as goal

pub returns-clause-begins : goal.returns-clause-begins
returns-clause-begins c = begin_tells c.args.raw.now.texts c.args.raw.now.trace c.name_at.result c.state_texts_differ.ensures.tasks c.state_texts_differ.ensures.names c.name_at.ensures
