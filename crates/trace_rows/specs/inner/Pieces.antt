-- Traces that are cut into pieces.
use Rattle.std.specs.Prelude.{List}
use Rattle.std.specs.Borrow.{Bor}
use Rattle.std.specs.List.{flat_map}
use Rattle.trace_rows.specs.declared.chunks.Piece.{Piece}
use Rattle.trace_types.specs.declared.named_trace.NamedTrace.{NamedTrace}

-- the traces of all pieces, in order
abbrev pub traces_of_pieces : List Piece → List (Bor NamedTrace)
traces_of_pieces pieces = flat_map (λ (piece : Piece). piece.traces.now) pieces
