use Rattle.trace_groups.proofs.NameLemmas.{AreNamesBelow}
use Rattle.trace_groups.proofs.names.gather_names.Given as goal

-- those of the events so far
abbrev pub invariant-events : goal.invariant-events
invariant-events l = AreNamesBelow l.raw l.at l.names.keys
