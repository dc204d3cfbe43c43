use Rattle.std.proofs.Common.{◌≡◌, filter, nat_lt, take}
use Rattle.task_rows.specs.Tables.{figures_of}
use Rattle.evidence_printing.proofs.numbers.keep_tasks.Given as goal

-- those kept of the numbers so far
abbrev pub invariant-numbers : goal.invariant-numbers
invariant-numbers l = l.kept.items ≡ filter (λ n. nat_lt 0 (figures_of l.table n n).traces) (take l.at l.numbers)
