use Rattle.std.proofs.Common.{◌≡◌, ◌≤◌, ◌-◌, length, take}
use Rattle.trace_rows.specs.inner.Pieces.{traces_of_pieces}
use Rattle.trace_rows.proofs.chunks.cut_pieces.Given as goal

-- the traces of the pieces so far
abbrev pub invariant-pieces : goal.invariant-pieces
invariant-pieces l = record {
  within : l.at ≤ length l.traces;
  so_far : traces_of_pieces l.pieces.items ≡ take l.at l.traces;
}

abbrev pub decreases-pieces : goal.decreases-pieces
decreases-pieces l = length l.traces - l.at
