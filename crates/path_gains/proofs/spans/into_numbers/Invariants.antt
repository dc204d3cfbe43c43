use Rattle.std.proofs.Common.{◌≡◌, ℕ, ◌*◌, ◌<◌, ◌≤◌, map, length}
use Rattle.path_gains.specs.inner.Spans.{shown_at}
use Rattle.path_gains.proofs.spans.into_numbers.Given as goal

-- the first row stands, and the numbers are those of all blocks
abbrev pub invariant-halving : goal.invariant-halving
invariant-halving g l =
    record {
      row : l.count ≤ length l.blocks.items;
      few : length l.blocks.items ≤ 64 * l.count;
      same : (v : ℕ) → v < l.count → shown_at l.count (map g.L.Length.value l.blocks.items) v ≡ shown_at l.count (map g.L.Length.value l.fn.blocks.items) v;
    }

abbrev pub decreases-halving : goal.decreases-halving
decreases-halving g l = length l.blocks.items
