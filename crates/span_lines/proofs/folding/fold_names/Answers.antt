use Rattle.std.proofs.Common.{◌∙◌, ◌<◌, List, ap, arith, get_or, length}
use Rattle.std.proofs.lemmas.List.{get_or_default}
use Rattle.span_types.specs.declared.span.Span.{Span}
use Rattle.span_names.specs.Folding.{folded_name}
use Rattle.span_lines.proofs.FoldLemmas.{fold_more, folded_at}
use Rattle.span_lines.proofs.folding.fold_names.Goals as goal

pub loop-at-preserved : goal.loop-at-preserved
loop-at-preserved c =
    let d : Span = c.index-spans-at-in-loop-at.result in
    let old : List Span = c.args.spans.now in
    let cur : List Span = c.loop-at.spans in
    let i = c.loop-at.at in
    let inv = c.loop-at.invariant in
    let low : i < length cur = omega (arith, c.loop-at.auto.spans, c.loop-at-test.true) in
    fold_more old cur i d c.loop-at-test.true inv (record (get_or cur i d) { name = c.in_ok-name.name })
    (folded_at old cur i d c.loop-at-test.true inv c.in_ok-name.name (c.in_ok-name.ensures ∙ ap folded_name (c.as_str.ensures ∙ ap (λ (s : Span). s.name) (get_or_default cur i c.index-spans-at.result d low))))
