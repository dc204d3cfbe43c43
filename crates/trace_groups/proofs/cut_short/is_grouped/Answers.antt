use Rattle.std.proofs.Common.{◌∙◌, ap, leb, subst, sym}
use Rattle.std.proofs.lemmas.Option.{get_or_from_slice_get}
use Rattle.trace_groups.specs.inner.Names.{IsNameAt}
use Rattle.trace_groups.proofs.CutLemmas.{size_is}
use Rattle.trace_groups.proofs.cut_short.is_grouped.Goals as goal

pub returns : goal.returns
returns c t at =
    let g = c.args.gathered.now in
    let raw = c.trace.result in
    let begin = c.begin_of-begin.result in
    let same = sym (get_or_from_slice_get g.traces c.args.index raw.trace raw.trace c.trace.ensures.trace) ∙ get_or_from_slice_get g.traces c.args.index t raw.trace at in
    let first = subst (λ u. IsNameAt g.texts u 0 begin) same (subst (λ ts. IsNameAt ts raw.trace 0 begin) c.trace.ensures.texts c.begin_of-begin.ensures.first) in
    ap (leb 10) (c.count_of.ensures ∙ size_is g.texts g.traces c.args.counts.now c.requires.counts c.args.index t at begin first)
