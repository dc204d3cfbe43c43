use Rattle.std.proofs.Common.{◌≡◌, ◌++◌, length, take}
use Rattle.std.specs.List.{flat_map}
use Rattle.matrix_picture.specs.Frames.{frame_if}
use Rattle.matrix_picture.proofs.frames.push_columns.Given as goal

-- the frames so far were appended
abbrev pub invariant-boxes : goal.invariant-boxes
invariant-boxes l = l.bytes.items ≡ l.fn.bytes.items ++ flat_map (frame_if (length l.boxes) l.pipe l.row) (take l.column-index l.boxes)
