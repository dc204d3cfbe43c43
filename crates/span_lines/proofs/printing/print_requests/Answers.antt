use Rattle.std.proofs.Common.{arith}
use Rattle.span_lines.specs.inner.LentMappings.{mapping_lent}
use Rattle.span_lines.proofs.PrintLemmas.{requests_count_next, requests_text_next}
use Rattle.span_lines.proofs.printing.print_requests.Goals as goal

pub requests-preserved : goal.requests-preserved
requests-preserved c =
    let m = mapping_lent c.args.mapping.now in
    let i = c.requests.call in
    let inv = c.requests.invariant in
    let step = c.in_ok-long.ensures in
    record {
      text = λ entries are. requests_text_next m entries i c.args.text.now.items c.requests.text.items c.print_at.new.text.items (inv.text entries are) (step.text entries are);
      count = λ entries are. requests_count_next m entries i c.requests.long c.in_ok-long.field-0 (inv.count entries are) (step.long entries are);
      few = omega (arith, inv.few, step.few);
    }
