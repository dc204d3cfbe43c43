use Rattle.std.proofs.Common.{◌≡◌, ◌++◌, take}
use Rattle.std.specs.List.{flat_map}
use Rattle.matrix_picture.specs.Matrices.{name_if}
use Rattle.matrix_picture.proofs.labels.push_box_name.Given as goal

-- the names so far were looked at
abbrev pub invariant-boxes : goal.invariant-boxes
invariant-boxes l = l.bytes.items ≡ l.fn.bytes.items ++ flat_map (name_if l.number) (take l.row-index l.boxes)
