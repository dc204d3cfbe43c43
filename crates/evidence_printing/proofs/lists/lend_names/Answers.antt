use Rattle.std.proofs.Common.{[]}
use Rattle.std.specs.Borrow.{Bor}
use Rattle.trace_types.specs.Segments.{SegmentName}
use Rattle.evidence_printing.proofs.ListLemmas.{lent_more}
use Rattle.evidence_printing.proofs.lists.lend_names.Goals as goal

pub numbers-preserved : goal.numbers-preserved
numbers-preserved c = rw c.in_ok-push.ensures.items
    (lent_more (λ (n : Bor SegmentName). n.now) c.args.catalogue.now.names ([], [], []) c.args.numbers.now c.numbers.at c.numbers.names.items c.text_of.result c.numbers-test.true c.numbers.invariant c.text_of.ensures)
