use Rattle.std.proofs.Common.{List, refl, ap, ◌∙◌}
use Rattle.std.specs.Prelude.{max}
use Rattle.page_rows.specs.declared.report_rows.SegmentRow.{SegmentRow}
use Rattle.refute_picture.specs.Overlaps.{box_time, sum_of}
use Rattle.refute_picture.proofs.GreatestLemmas.{greatest_done, greatest_next}
use Rattle.refute_picture.proofs.box_time.box_time.Goals as goal

pub segments-preserved : goal.segments-preserved
segments-preserved c =
    greatest_next (sum_of c.args.row.now) (λ (ss : List SegmentRow). box_time ss c.args.row.now) refl (λ x xs. refl) c.args.segments.now c.segments.segment-index c.segment-item.result c.segments.time c.max-time.result c.segments-test.true c.segment-item.is
    (c.max-time.ensures ∙ ap (λ n. max n c.segments.time) c.sum_of.ensures) c.segments.invariant

pub returns : goal.returns
returns c = greatest_done (sum_of c.args.row.now) (λ (ss : List SegmentRow). box_time ss c.args.row.now) refl (λ x xs. refl) c.args.segments.now c.segments.segment-index c.segments.time c.segments-test.false c.segments.invariant
