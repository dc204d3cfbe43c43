use Rattle.std.proofs.Common.{arith, subst}
use Rattle.name_quality.specs.inner.Adding.{AddsNames}
use Rattle.name_quality.proofs.GatherLemmas.{names_all, names_more}
use Rattle.name_quality.proofs.names.gather_names.Goals as goal

pub traces-preserved : goal.traces-preserved
traces-preserved c =
    let g = c.args.gathered.now in
    let raw = c.trace.result in
    names_more g.texts g.traces c.traces.index raw.trace c.traces.names.items c.add_trace.new.names.items c.trace.ensures.trace c.traces.invariant
    (subst (λ texts. AddsNames (record { texts = texts; trace = raw.trace }) c.traces.names.items c.add_trace.new.names.items) c.trace.ensures.texts c.in_ok-add_trace.ensures)

pub returns : goal.returns
returns c = names_all c.args.gathered.now.texts c.args.gathered.now.traces c.traces.index c.traces.names.items (omega (arith, c.traces-test.false, c.len-index-end.ensures)) c.traces.invariant
