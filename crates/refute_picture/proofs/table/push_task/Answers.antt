use Rattle.refute_picture.specs.Refutes.{task_label}
use Rattle.refute_picture.proofs.table.push_task.Goals as goal

pub returns : goal.returns
unfolding task_label
returns c = rw c.as_str.ensures at c.push_pieces.ensures
