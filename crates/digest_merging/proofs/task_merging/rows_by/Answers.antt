use Rattle.std.proofs.Common.{arith, ap, length}
use Rattle.std.specs.Vec.Iter.{into_iter_items}
use Rattle.digest_merging.specs.inner.MergedRows.{mark_by}
use Rattle.digest_merging.proofs.PlacedLemmas.{row_more}
use Rattle.digest_merging.proofs.task_merging.rows_by.Goals as goal

pub rows-preserved : goal.rows-preserved
rows-preserved c =
    let steps = c.in-Some.ensures.steps in record {
      left = omega (arith, c.rows.invariant.left, steps.1);
      counted = let short = ap length steps.0 in omega (arith, c.rows.invariant.counted, steps.1, short);
      so_far = row_more (mark_by c.args.first.now c.args.second.now) c.rows.rows.items c.push.new.self.items _ c.args.places.now c.rows.k _ _ _
          (into_iter_items c.rows.task-iterator) (into_iter_items c.next.new.self) (omega (arith, c.rows.invariant.left, steps.1)) c.in_ok-marks.ensures steps.0 c.in_ok-push.ensures.items c.rows.invariant.so_far;
    }
