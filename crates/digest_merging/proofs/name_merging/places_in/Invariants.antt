use Rattle.std.proofs.Common.{◌≡◌, length, map, take}
use Rattle.std.specs.List.{AllZip}
use Rattle.trace_types.specs.NameOrder.{name_cmp}
use Rattle.digest_facts.specs.Digests.{Rises}
use Rattle.digest_merging.specs.inner.MergedRows.{ArePlaces}
use Rattle.digest_merging.proofs.name_merging.places_in.Given as goal

-- the places so far
abbrev pub invariant-names : goal.invariant-names
invariant-names l = record {
  count : length l.places.items ≡ l.name-index;
  places : Rises name_cmp (map (λ r. r.0) l.first) → Rises name_cmp (map (λ r. r.0) l.second) → AllZip (ArePlaces (map (λ r. r.0) l.first) (map (λ r. r.0) l.second)) (take l.name-index l.names) l.places.items;
}
