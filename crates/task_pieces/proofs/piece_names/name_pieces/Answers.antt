use Rattle.std.proofs.Common.{subst, sym}
use Rattle.task_pieces.specs.inner.Naming.{AreAllNames}
use Rattle.std.proofs.Common.{◌+◌}
use Rattle.task_pieces.proofs.NameLemmas.{all_more}
use Rattle.task_pieces.proofs.piece_names.name_pieces.Goals as goal

pub loop-number-preserved : goal.loop-number-preserved
loop-number-preserved c =
    subst (AreAllNames c.args.tasks.now.keys c.args.most.now (c.loop-number.number + 1)) (sym c.in_ok-push.ensures.items)
    (all_more c.args.tasks.now.keys c.args.most.now c.loop-number.number c.loop-number.names.items c.in_ok-names_of_task.field-0 c.loop-number.invariant c.in_ok-names_of_task.ensures)
