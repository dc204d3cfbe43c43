use Rattle.std.proofs.Common.{◌≡◌, [], map, take, List, subst, arith}
use Rattle.std.proofs.lemmas.List.{take_all}
use Rattle.trace_types.specs.declared.trace.Trace.{Trace}
use Rattle.trace_types.specs.Segments.{name_of}
use Rattle.model_checks.specs.inner.Growing.{AddsDistinct}
use Rattle.trace_types.specs.Parts.{by_text, segments_of}
use Rattle.model_checks.proofs.GrowingLemmas.{AddsDistinct-more_lists}
use Rattle.model_checks.proofs.NameLemmas.{names_listed}
use Rattle.model_checks.proofs.distinct_names.distinct_names.Goals as goal

pub loop-trace-preserved : goal.loop-trace-preserved
loop-trace-preserved c = AddsDistinct-more_lists (λ (t : Trace). t.segments) name_of c.args.traces.now c.loop-trace.trace-index c.trace-item.result (omega arith) c.trace-item.is [] (c.loop-trace.names.items) (c.add_names.new.names.items) c.loop-trace.invariant c.in_ok-add_names.ensures

pub returns-clause-lists : goal.returns-clause-lists
returns-clause-lists c =
    let all : take c.loop-trace.trace-index c.args.traces.now ≡ c.args.traces.now = take_all c.loop-trace.trace-index c.args.traces.now (omega arith) in
    names_listed (segments_of by_text c.args.traces.now) c.loop-trace.names.items c.sort_unstable.new.self.items
    (subst (λ (l : List Trace). AddsDistinct (map name_of (segments_of by_text l)) [] (c.loop-trace.names.items)) all c.loop-trace.invariant)
    c.sort_unstable.ensures.permutation c.sort_unstable.ensures.sorted
