use Rattle.std.proofs.Common.{◌*◌}
use Rattle.task_sharings.specs.inner.Tables.{AreNoted}
use Rattle.task_sharings.proofs.noting.note_trace.Given as goal

abbrev pub invariant-tasks : goal.invariant-tasks
invariant-tasks l = AreNoted l.tasks l.index l.trace 0 l.fn.figures (l.from * l.tasks) l.figures
