use Rattle.std.proofs.Common.{◌≡◌, ◌<◌, All, [], length, take}
use Rattle.std.specs.Prelude.{slice_index_or}
use Rattle.std.specs.List.{flat_map}
use Rattle.context_names.specs.Pieces.{forked_among}
use Rattle.context_names.proofs.pieces.list_forked.Given as goal

-- the forked ones below the contexts so far
abbrev pub invariant-loop-number : goal.invariant-loop-number
invariant-loop-number l = record {
  list : l.list.items ≡ flat_map (λ x. forked_among l.forked (slice_index_or l.below x [])) (take l.number-index l.order);
  within : All (λ y. y < length l.forked) l.list.items;
}
