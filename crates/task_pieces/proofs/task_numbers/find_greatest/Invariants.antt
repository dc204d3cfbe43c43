use Rattle.std.proofs.Common.{◌≡◌, ℕ, ◌<◌, ◌≤◌, All, length, slice_index_or}
use Rattle.task_pieces.proofs.task_numbers.find_greatest.Given as goal

-- the greatest of the pieces so far
abbrev pub invariant-loop-at : goal.invariant-loop-at
invariant-loop-at l = record {
  size : length l.most.items ≡ l.count;
  covers : (i : ℕ) → i < l.at → slice_index_or l.pieces i 0 ≤ slice_index_or l.most.items (slice_index_or l.numbers i 0) 0;
  within : (bound : ℕ) → All (λ piece. piece ≤ bound) l.pieces → All (λ piece. piece ≤ bound) l.most.items;
}
