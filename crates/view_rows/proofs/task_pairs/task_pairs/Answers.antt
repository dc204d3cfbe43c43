use Rattle.std.specs.Cmp.Lexicographic.{slice_cmp}
use Rattle.std.specs.Ordering.{nat_cmp}
use Rattle.model_meet.specs.RelationBits.{HasPipe}
use Rattle.trace_types.proofs.ComparingLemmas.{text_total}
use Rattle.view_rows.specs.inner.Listings.{IsPipe}
use Rattle.kept_names.proofs.ListingLemmas.{holds_first}
use Rattle.view_rows.proofs.ModelRowLemmas.{rows_end, rows_step}
use Rattle.view_rows.proofs.task_pairs.task_pairs.Goals as goal

pub loop-at-preserved : goal.loop-at-preserved
loop-at-preserved c = rows_step (slice_cmp nat_cmp) text_total c.args.tasks.now c.requires.rising (IsPipe c.args.tasks.now c.args.model.now.words) c.loop-at.at c.loop-at-test.true c.loop-at.pairs.items c.add_row.new.pairs.items
    (c.loop-at.invariant) (λ first e. c.in_ok-add_row.ensures first e)

pub returns : goal.returns
returns c = rows_end (slice_cmp nat_cmp) text_total c.args.tasks.now c.requires.rising (IsPipe c.args.tasks.now c.args.model.now.words)
    (λ x y h. holds_first (slice_cmp nat_cmp) text_total c.args.tasks.now c.requires.rising (HasPipe c.args.model.now.words) x y h)
    c.loop-at.at c.loop-at-test.false c.loop-at.pairs.items (c.loop-at.invariant)
