use Rattle.std.proofs.Common.{◌≡◌, ℕ, List, map, take}
use Rattle.std.specs.Borrow.{Bor}
use Rattle.certificate_rows.specs.Orders.{numbered_task}
use Rattle.evidence_printing.proofs.lists.lend_tasks.Given as goal

-- the texts of the numbers so far
abbrev pub invariant-numbers : goal.invariant-numbers
invariant-numbers l =
    map (λ (t : Bor (List ℕ)). t.now) l.tasks.items ≡ map (numbered_task l.catalogue) (take l.at l.numbers)
