use Rattle.std.proofs.Common.{◌≡◌, ◌++◌, take}
use Rattle.std.specs.List.{flat_map}
use Rattle.matrix_picture.specs.Matrices.{label_if}
use Rattle.matrix_picture.proofs.matrix.push_labels.Given as goal

-- the labels so far were appended
abbrev pub invariant-boxes : goal.invariant-boxes
invariant-boxes l = l.bytes.items ≡ l.fn.bytes.items ++ flat_map (label_if l.count) (take l.row-index l.boxes)
