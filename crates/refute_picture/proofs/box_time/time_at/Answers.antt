use Rattle.std.proofs.Common.{List, refl, ap, ◌∙◌}
use Rattle.std.specs.Prelude.{max}
use Rattle.page_rows.specs.declared.model_rows.BoxRow.{BoxRow}
use Rattle.refute_picture.specs.Overlaps.{time_at, time_if}
use Rattle.refute_picture.proofs.GreatestLemmas.{greatest_done, greatest_next}
use Rattle.refute_picture.proofs.box_time.time_at.Goals as goal

pub boxes-preserved : goal.boxes-preserved
boxes-preserved c =
    greatest_next (time_if c.args.segments.now c.args.number) (λ (bs : List BoxRow). time_at c.args.segments.now bs c.args.number) refl (λ x xs. refl) c.args.boxes.now c.boxes.row-index c.row-item.result c.boxes.time c.max-time.result c.boxes-test.true c.row-item.is
    (c.max-time.ensures ∙ ap (λ n. max n c.boxes.time) c.time_if.ensures) c.boxes.invariant

pub returns : goal.returns
returns c = greatest_done (time_if c.args.segments.now c.args.number) (λ (bs : List BoxRow). time_at c.args.segments.now bs c.args.number) refl (λ x xs. refl) c.args.boxes.now c.boxes.row-index c.boxes.time c.boxes-test.false c.boxes.invariant
