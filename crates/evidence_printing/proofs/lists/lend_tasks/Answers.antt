use Rattle.std.proofs.Common.{ℕ, List, []}
use Rattle.std.specs.Borrow.{Bor}
use Rattle.evidence_printing.proofs.ListLemmas.{lent_more}
use Rattle.evidence_printing.proofs.lists.lend_tasks.Goals as goal

pub numbers-preserved : goal.numbers-preserved
numbers-preserved c = rw c.in_ok-push.ensures.items
    (lent_more (λ (t : Bor (List ℕ)). t.now) c.args.catalogue.now.tasks [] c.args.numbers.now c.numbers.at c.numbers.tasks.items c.task_text.result c.numbers-test.true c.numbers.invariant c.task_text.ensures)
