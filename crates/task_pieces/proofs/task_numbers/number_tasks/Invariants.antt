use Rattle.std.proofs.Common.{◌≡◌, ◌≤◌, length, take}
use Rattle.task_pieces.specs.TaskKeys.{events_of_keys}
use Rattle.task_pieces.specs.TaskNames.{tasks_of}
use Rattle.task_pieces.specs.inner.Naming.{AreNumbers}
use Rattle.task_pieces.proofs.task_numbers.number_tasks.Given as goal

-- the tasks of the keys so far were numbered
abbrev pub invariant-loop-key : goal.invariant-loop-key
invariant-loop-key l = record {
  tasks : l.tasks.keys ≡ tasks_of (events_of_keys (take l.key-index l.keys));
  few : length l.tasks.keys ≤ l.key-index;
  numbers : AreNumbers l.tasks.keys (take l.key-index l.keys) l.numbers.items;
}
