use Rattle.std.proofs.Common.{◌≡◌, ◌++◌, ℕ, List, length, take, sym, ap, ◌∙◌, subst}
use Rattle.std.specs.Borrow.{Bor}
use Rattle.std.specs.List.{flat_map}
use Rattle.trace_paths.specs.Tables.{IsTableOf}
use Rattle.trace_types.specs.declared.named_segment.NamedSegment.{NamedSegment}
use Rattle.trace_types.specs.declared.named_trace.NamedTrace.{NamedTrace}
use Rattle.trace_types.proofs.ElementLemmas.{flat_more}
use Rattle.latency_report.proofs.tables.tabulate_traces.Goals as goal

pub traces-preserved : goal.traces-preserved
traces-preserved c =
    let ts = c.args.traces.now in
    let i = c.traces.trace-index in
    let t = c.trace-item.result in
    let names = c.args.names in
    let segments = λ (x : Bor NamedTrace). x.now.segments in
    let before : List NamedSegment = flat_map segments (take i ts) in
    let count : length c.traces.table ≡ names = c.traces.invariant.count in
    let added : IsTableOf names (before ++ c.items.result.now) c.add.new.self =
    subst (λ (k : ℕ). IsTableOf k (before ++ c.items.result.now) c.add.new.self) count
    (c.in_ok-add.ensures.added before (subst (λ (k : ℕ). IsTableOf k before c.traces.table) (sym count) c.traces.invariant)) in
    subst (λ (l : List NamedSegment). IsTableOf names l c.add.new.self)
    (ap (λ (l : List NamedSegment). before ++ l) c.items.ensures ∙ sym (flat_more segments ts i t c.traces-test.true c.trace-item.is)) added
