use Rattle.std.proofs.Common.{◌&&◌, ◌∙◌, ap, arith, length, sym, ℕ}
use Rattle.std.specs.Prelude.{count_by}
use Rattle.std.proofs.lemmas.List.{length-map, take_all}
use Rattle.std.proofs.lemmas.Option.{get_or_from_slice_get, slice_get_within}
use Rattle.indexmap.specs.IndexMap.{keys}
use Rattle.trace_quality.proofs.CountLemmas.{count_more}
use Rattle.trace_groups.specs.inner.Counts.{is_usual_row, total_in}
use Rattle.trace_groups.specs.inner.Names.{is_name}
use Rattle.trace_groups.proofs.usual.total_usual.Goals as goal

pub counts-preserved : goal.counts-preserved
counts-preserved c name =
    let rows = keys c.args.counts.now in
    let row = c.key_at.result in
    count_more (λ r. is_name name r.0 && is_usual_row c.args.counts.now r) rows c.counts.index row row (total_in c.counts.totals name) (total_in c.add_usual.new.totals name)
    (slice_get_within rows c.counts.index row c.key_at.ensures) (c.counts.invariant name) (sym (get_or_from_slice_get rows c.counts.index row row c.key_at.ensures)) (c.in_ok-add_usual.ensures name)
