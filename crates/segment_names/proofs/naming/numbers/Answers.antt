use Rattle.segment_names.specs.Known.{same_name}
use Rattle.segment_names.specs.inner.Filing.{known_in}
use Rattle.segment_names.proofs.FindLemmas.{found-there}
use Rattle.segment_names.proofs.TextLemmas.{name_means, name_own}
use Rattle.segment_names.proofs.naming.numbers.Goals as goal

pub returns-clause-name : goal.returns-clause-name
returns-clause-name c = found-there same_name name_means name_own (known_in c.args.tables.now).names (c.args.task.now, c.args.start.now, c.args.end.now) c.in_ok-name.name c.in_ok-name.ensures.name
