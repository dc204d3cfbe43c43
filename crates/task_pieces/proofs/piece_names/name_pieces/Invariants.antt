use Rattle.task_pieces.specs.inner.Naming.{AreAllNames}
use Rattle.task_pieces.proofs.piece_names.name_pieces.Given as goal

-- the names of the tasks so far
abbrev pub invariant-loop-number : goal.invariant-loop-number
invariant-loop-number l = AreAllNames l.tasks.keys l.most l.number l.names.items
