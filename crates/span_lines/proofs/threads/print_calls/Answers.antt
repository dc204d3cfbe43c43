use Rattle.std.proofs.Common.{arith}
use Rattle.span_lines.specs.inner.LentMappings.{mapping_lent}
use Rattle.span_lines.proofs.PrintLemmas.{calls_count, calls_text}
use Rattle.span_lines.proofs.threads.print_calls.Goals as goal

pub calls-preserved : goal.calls-preserved
calls-preserved c =
    let m = mapping_lent c.args.mapping.now in
    let inv = c.calls.invariant in
    record {
      text = calls_text m c.args.request.now c.args.first c.calls.call (omega (arith, c.calls.auto.call)) c.args.text.now.items c.calls.text.items c.print_call.new.text.items inv.text c.in_ok-more.ensures.text;
      count = calls_count m c.args.request.now c.args.first c.calls.call (omega (arith, c.calls.auto.call)) c.calls.count c.in_ok-more.more c.saturating_add-count.result inv.count c.in_ok-more.ensures.count c.saturating_add-count.ensures;
    }
