use Rattle.std.proofs.Common.{◌≡◌, ◌++◌, [], drop, take}
use Rattle.judged_books.specs.inner.KeptRows.{marked_rows, task_mark}
use Rattle.judged_books.proofs.kept_digest.task_rows.Given as goal

-- the rows so far, and those that are left
abbrev pub invariant-rows : goal.invariant-rows
invariant-rows l = l.rows.items ++ marked_rows (task_mark l.words) (take l.k l.tasks) (drop l.k l.tasks) ≡ marked_rows (task_mark l.words) [] l.tasks
