use Rattle.std.proofs.Common.{◌+◌, ◌*◌}
use Rattle.model_meet.specs.ExclusionTables.{HasEntries}
use Rattle.model_meet.proofs.exclusions.add_row.Given as goal

abbrev pub invariant-loop-other : goal.invariant-loop-other
invariant-loop-other l = HasEntries l.model (l.name * l.model.names + l.other) l.table.items
