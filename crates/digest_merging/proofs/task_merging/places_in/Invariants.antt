use Rattle.std.proofs.Common.{◌≡◌, length, map, take}
use Rattle.std.specs.List.{AllZip}
use Rattle.std.specs.Cmp.Lexicographic.{slice_cmp}
use Rattle.std.specs.Ordering.{nat_cmp}
use Rattle.digest_facts.specs.Digests.{Rises}
use Rattle.digest_merging.specs.inner.MergedRows.{ArePlaces}
use Rattle.digest_merging.proofs.task_merging.places_in.Given as goal

-- the places so far
abbrev pub invariant-tasks : goal.invariant-tasks
invariant-tasks l = record {
  count : length l.places.items ≡ l.task-index;
  places : Rises (slice_cmp nat_cmp) (map (λ r. r.0) l.first) → Rises (slice_cmp nat_cmp) (map (λ r. r.0) l.second) → AllZip (ArePlaces (map (λ r. r.0) l.first) (map (λ r. r.0) l.second)) (take l.task-index l.tasks) l.places.items;
}
