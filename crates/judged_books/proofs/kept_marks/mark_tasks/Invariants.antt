use Rattle.std.proofs.Common.{◌≡◌, map, take}
use Rattle.judged_books.specs.inner.KeptRows.{task_mark}
use Rattle.judged_books.proofs.kept_marks.mark_tasks.Given as goal

-- the marks so far
abbrev pub invariant-tasks : goal.invariant-tasks
invariant-tasks l = l.marks.items ≡ map (λ i. task_mark l.words i.1 l.number) (take l.item-index l.earlier)
