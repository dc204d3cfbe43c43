use Rattle.std.proofs.Common.{◌≡◌, map, take}
use Rattle.std.specs.Borrow.{Bor}
use Rattle.certificate_rows.specs.Orders.{numbered_name}
use Rattle.trace_types.specs.Segments.{SegmentName}
use Rattle.evidence_printing.proofs.lists.lend_names.Given as goal

-- the texts of the numbers so far
abbrev pub invariant-numbers : goal.invariant-numbers
invariant-numbers l =
    map (λ (n : Bor SegmentName). n.now) l.names.items ≡ map (numbered_name l.catalogue) (take l.at l.numbers)
