use Rattle.std.proofs.Common.{◌≡◌, ◌++◌, take}
use Rattle.markup.specs.Parts.{pieces_text}
use Rattle.markup.proofs.piece.push_pieces.Given as goal

-- the pieces so far were appended
abbrev pub invariant-pieces : goal.invariant-pieces
invariant-pieces l = l.bytes.items ≡ l.fn.bytes.items ++ pieces_text (take l.piece-index l.pieces)
