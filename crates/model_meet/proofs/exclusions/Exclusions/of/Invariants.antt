use Rattle.std.proofs.Common.{◌*◌}
use Rattle.model_meet.specs.ExclusionTables.{HasEntries}
use Rattle.model_meet.proofs.exclusions.Exclusions.of.Given as goal

abbrev pub invariant-loop-name : goal.invariant-loop-name
invariant-loop-name l = HasEntries l.model (l.name * l.model.names) l.table.items
