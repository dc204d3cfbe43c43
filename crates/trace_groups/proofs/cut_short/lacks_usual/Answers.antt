use Rattle.std.proofs.Common.{◌∙◌, ap, ltb, subst, sym, ℕ}
use Rattle.std.specs.Prelude.{count_by}
use Rattle.std.specs.List.{IsDistinct}
use Rattle.std.proofs.lemmas.Option.{get_or_from_slice_get}
use Rattle.trace_groups.specs.inner.Counts.{is_usual_row}
use Rattle.trace_groups.specs.inner.Names.{AreNames, IsNameAt, is_name}
use Rattle.trace_groups.proofs.CutLemmas.{cut_tells}
use Rattle.trace_groups.proofs.cut_short.lacks_usual.Goals as goal

pub returns : goal.returns
returns c t at =
    let g = c.args.gathered.now in
    let raw = c.trace-raw.result in
    let begin = c.begin_of-begin.result in
    let names = c.as_slice.result.now in
    let same = sym (get_or_from_slice_get g.traces c.args.index raw.trace raw.trace c.trace-raw.ensures.trace) ∙ get_or_from_slice_get g.traces c.args.index t raw.trace at in
    let first = subst (λ u. IsNameAt g.texts u 0 begin) same (subst (λ ts. IsNameAt ts raw.trace 0 begin) c.trace-raw.ensures.texts c.begin_of-begin.ensures.first) in
    let lent = subst (AreNames raw) (sym c.as_slice.ensures.keys) c.in_ok-names.ensures in
    let are = subst (λ u. AreNames (record { texts = g.texts; trace = u }) names) same (subst (λ ts. AreNames (record { texts = ts; trace = raw.trace }) names) c.trace-raw.ensures.texts lent) in
    ap (λ (n : ℕ). ltb n c.count_of.result) c.count_usual.ensures
    ∙ ap (ltb (count_by (λ (k : ℕ × ℕ). is_usual_row c.args.counts.now (begin, k)) names)) c.count_of.ensures
    ∙ cut_tells g.texts g.traces c.args.counts.now c.requires.counts c.args.index t at begin first names are c.args.totals.now c.len-count.ensures.unique (subst (IsDistinct is_name) (sym c.as_slice.ensures.keys) c.as_slice.ensures.unique) c.requires.totals
