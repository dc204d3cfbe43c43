use Rattle.std.proofs.Common.{◌≡◌, ◌++◌, take}
use Rattle.std.specs.List.{flat_map}
use Rattle.matrix_picture.specs.Frames.{row_frames}
use Rattle.matrix_picture.proofs.frames.push_pipe.Given as goal

-- the rows so far were looked at
abbrev pub invariant-boxes : goal.invariant-boxes
invariant-boxes l = l.bytes.items ≡ l.fn.bytes.items ++ flat_map (row_frames l.boxes l.pipe) (take l.row-index l.boxes)
