use Rattle.std.proofs.Common.{◌<◌, Bool, true, false, ap, arith, length}
use Rattle.std.proofs.lemmas.Option.{slice_get-get_or}
use Rattle.trace_quality.specs.Measures.{one_if}
use Rattle.trace_quality.proofs.CountLemmas.{tally_more}
use Rattle.trace_groups.specs.Groups.{counts_cut, counts_grouped}
use Rattle.trace_groups.proofs.NameLemmas.{element}
use Rattle.trace_groups.proofs.cut_short.tally_cut.Goals as goal

small : (b : Bool) → one_if b < 4294967296
small true = omega arith
small false = omega arith

pub traces-preserved : goal.traces-preserved
traces-preserved c =
    let traces = c.args.gathered.now.traces in
    let lt : c.traces.index < length c.args.gathered.now.traces = omega (arith, c.traces-test.true, c.len-index-end.ensures) in
    let d = element c.args.gathered.now.traces c.traces.index lt in
    let at = slice_get-get_or c.args.gathered.now.traces c.traces.index d lt in
    tally_more (counts_cut traces) (counts_grouped traces) traces c.traces.index d c.traces.sum c.add_trace-sum.result (one_if c.in_ok-cut.cut) (one_if c.is_grouped.result)
    lt c.traces.invariant (ap one_if (c.in_ok-cut.ensures _ at)) (ap one_if (c.is_grouped.ensures _ at)) (small c.in_ok-cut.cut) (small c.is_grouped.result)
    c.add_trace-sum.ensures.count c.add_trace-sum.ensures.of c.add_trace-sum.ensures.first
