use Rattle.std.proofs.Common.{◌+◌, ◌*◌}
use Rattle.task_sharings.specs.inner.Tables.{AreNoted}
use Rattle.task_sharings.proofs.noting.note_row.Given as goal

abbrev pub invariant-others : goal.invariant-others
invariant-others l = AreNoted l.shares.tasks l.index l.shares.trace.now (l.from * l.shares.tasks) l.fn.figures (l.from * l.shares.tasks + l.to) l.figures
