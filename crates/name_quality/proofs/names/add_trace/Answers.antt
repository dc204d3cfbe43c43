use Rattle.std.proofs.Common.{◌≢◌, rules}
use Rattle.std.proofs.lemmas.Result.{on_ok_weaker}
use Rattle.segment_cut.specs.declared.trace_fault.TraceFault.TheVariants.{Memory}
use Rattle.name_quality.proofs.GatherLemmas.{cut_added, fault_added}
use Rattle.name_quality.proofs.names.add_trace.Goals as goal

pub returns-in-Ok : goal.returns-in-Ok
returns-in-Ok c =
    let raw = c.args.raw.now in
    let cut = c.in-Ok.trace in
    let old = c.args.names.now.items in
    let new = c.push_names.new.names.items in
    on_ok_weaker c.push_names.result (λ e. cut_added raw cut.texts cut.trace c.segments.result.now old new c.in-Ok.ensures.texts c.in-Ok.ensures.ok c.segments.ensures.segments c.segments.ensures.texts e) c.push_names.ensures

pub returns-in-Err : goal.returns-in-Err
returns-in-Err c =
    let other : c.in-Err._fault ≢ Memory = search rules in
    fault_added c.args.raw.now c.args.names.now.items c.in-Err._fault (c.in-Err.ensures.err other)
