use Rattle.std.proofs.Common.{arith, map}
use Rattle.digest_merging.specs.inner.MergedRows.{ArePlaces}
use Rattle.digest_merging.proofs.PlacedLemmas.{zip_more}
use Rattle.digest_merging.proofs.task_merging.places_in.Goals as goal

pub tasks-preserved : goal.tasks-preserved
tasks-preserved c = record {
  count = omega (arith, c.in_ok-push.ensures.len, c.tasks.invariant.count);
  places = λ up down. zip_more (ArePlaces (map (λ r. r.0) c.args.first.now) (map (λ r. r.0) c.args.second.now)) c.args.tasks.now c.tasks.places.items _ c.tasks.task-index c.task-item.result _ c.tasks-test.true c.task-item.is c.in_ok-push.ensures.items (c.tasks.invariant.places up down) (c.place_in.ensures up, c.place_in-in-tasks.ensures down);
}
