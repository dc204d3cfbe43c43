use Rattle.std.proofs.Common.{◌≡◌, length}
use Rattle.task_pieces.specs.inner.Numbering.{ArePlaced, IsPieceBefore}
use Rattle.task_pieces.proofs.piece_numbers.place_pieces.Given as goal

-- the pieces of the keys so far were placed, and this is the last of them
abbrev pub invariant-loop-at : goal.invariant-loop-at
invariant-loop-at l = record {
  length : length l.pieces ≡ length l.fn.pieces;
  before : IsPieceBefore l.order l.at l.piece;
  placed : ArePlaced l.order l.at l.pieces;
}
