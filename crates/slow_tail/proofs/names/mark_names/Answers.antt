use Rattle.std.proofs.Common.{◌≡◌, ◌+◌, ◌++◌, List, length, take, sym, ap, ◌∙◌, subst}
use Rattle.std.specs.Borrow.{Bor}
use Rattle.std.specs.List.{flat_map}
use Rattle.std.proofs.lemmas.List.{take_all}
use Rattle.trace_types.specs.declared.named_segment.NamedSegment.{NamedSegment}
use Rattle.trace_types.specs.declared.named_trace.NamedTrace.{NamedTrace}
use Rattle.trace_types.proofs.ElementLemmas.{flat_more}
use Rattle.slow_tail.specs.inner.Marks.{AreMarksOf}
use Rattle.slow_tail.proofs.MarkLemmas.{marks_more, written_back}
use Rattle.slow_tail.proofs.names.mark_names.Goals as goal

pub traces-preserved : goal.traces-preserved
traces-preserved c =
    let ts = c.args.traces.now in
    let i = c.traces.trace-index in
    let t = c.trace-item.result in
    let names = c.args.names in
    let segments = λ (x : Bor NamedTrace). x.now.segments in
    let before : List NamedSegment = flat_map segments (take i ts) in
    let old = c.traces.marked.items in
    let new = c.mark_segments.new.marked in
    let lent : c.deref_mut.result.now ≡ old = c.deref_mut.ensures.value in
    let count = c.mark_segments.ensures.count ∙ ap length lent in
    let told : AreMarksOf names (before ++ c.items.result.now) new =
    marks_more names before c.items.result.now c.deref_mut.result.now new (subst (AreMarksOf names before) (sym lent) c.traces.invariant) c.mark_segments.ensures.count c.mark_segments.ensures.marks in
    subst (AreMarksOf names (flat_map segments (take (i + 1) ts))) (sym (written_back c.traces.marked.len old new c.traces.marked.ok.0 count))
    (subst (λ (l : List NamedSegment). AreMarksOf names l new) (ap (λ (l : List NamedSegment). before ++ l) c.items.ensures ∙ sym (flat_more segments ts i t c.traces-test.true c.trace-item.is)) told)

pub returns : goal.returns
returns c =
    subst (λ (l : List (Bor NamedTrace)). AreMarksOf c.args.names (flat_map (λ (x : Bor NamedTrace). x.now.segments) l) c.traces.marked.items)
    (take_all c.traces.trace-index c.args.traces.now c.traces-test.false) c.traces.invariant
