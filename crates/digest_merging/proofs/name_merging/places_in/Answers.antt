use Rattle.std.proofs.Common.{arith, map}
use Rattle.digest_merging.specs.inner.MergedRows.{ArePlaces}
use Rattle.digest_merging.proofs.PlacedLemmas.{zip_more}
use Rattle.digest_merging.proofs.name_merging.places_in.Goals as goal

pub names-preserved : goal.names-preserved
names-preserved c = record {
  count = omega (arith, c.in_ok-push.ensures.len, c.names.invariant.count);
  places = λ up down. zip_more (ArePlaces (map (λ r. r.0) c.args.first.now) (map (λ r. r.0) c.args.second.now)) c.args.names.now c.names.places.items _ c.names.name-index c.name-item.result _ c.names-test.true c.name-item.is c.in_ok-push.ensures.items (c.names.invariant.places up down) (c.place_in.ensures up, c.place_in-in-names.ensures down);
}
