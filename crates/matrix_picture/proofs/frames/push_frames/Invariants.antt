use Rattle.std.proofs.Common.{◌≡◌, ◌++◌, take}
use Rattle.std.specs.List.{flat_map}
use Rattle.matrix_picture.specs.Frames.{pipe_frames}
use Rattle.matrix_picture.proofs.frames.push_frames.Given as goal

-- the frames of the pipelines so far were appended
abbrev pub invariant-pipes : goal.invariant-pipes
invariant-pipes l = l.bytes.items ≡ l.fn.bytes.items ++ flat_map (pipe_frames l.boxes) (take l.pipe-index l.pipes)
