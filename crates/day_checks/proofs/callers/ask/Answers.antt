use Rattle.std.proofs.Common.{ap, sym, rules}
use Rattle.hypothesis_index.specs.Places.{width_of}
use Rattle.day_checks.proofs.callers.ask.Goals as goal

pub ask-requires-clause-width : goal.ask-requires-clause-width
ask-requires-clause-width g c = search (rules, ap width_of (sym c.requires.names))
