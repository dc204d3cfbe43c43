use Rattle.std.proofs.Common.{◌+◌, ◌≤◌, length, arith, subst, sym, take}
use Rattle.trace_groups.specs.inner.Counts.{AreCounted}
use Rattle.trace_groups.specs.inner.Names.{AreNames}
use Rattle.trace_groups.proofs.CountedLemmas.{counted_all, counted_more, counts_few}
use Rattle.trace_groups.proofs.counts.count_names.Goals as goal

pub count_trace-requires-clause-few : goal.count_trace-requires-clause-few
count_trace-requires-clause-few c row =
    let le : c.traces.index ≤ length c.args.gathered.now.traces = omega (arith, c.traces-test.true, c.len-index-end.ensures) in
    omega (arith, counts_few c.args.gathered.now.texts c.args.gathered.now.traces c.traces.index c.traces.counts le c.traces.invariant row, c.traces-test.true, c.len-index-end.type_inv)

pub traces-preserved : goal.traces-preserved
traces-preserved c =
    let raw = c.trace-raw.result in
    let same = c.trace-raw.ensures.texts in
    subst (λ texts. AreCounted texts (take (c.traces.index + 1) c.args.gathered.now.traces) c.count_trace.new.counts) same
    (counted_more raw.texts c.args.gathered.now.traces c.traces.index raw.trace c.traces.counts c.count_trace.new.counts c.as_slice.result.now c.begin_of.result c.trace-raw.ensures.trace
    (subst (λ texts. AreCounted texts (take c.traces.index c.args.gathered.now.traces) c.traces.counts) (sym same) c.traces.invariant)
    (subst (AreNames raw) (sym c.as_slice.ensures.keys) c.in_ok-names.ensures) c.begin_of.ensures.first.known c.begin_of.ensures.begins c.in_ok-count_trace.ensures)

pub returns : goal.returns
returns c = counted_all c.args.gathered.now.texts c.args.gathered.now.traces c.traces.index c.traces.counts (omega (arith, c.traces-test.false, c.len-index-end.ensures)) c.traces.invariant
