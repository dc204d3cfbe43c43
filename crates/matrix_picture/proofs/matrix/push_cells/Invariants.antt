use Rattle.std.proofs.Common.{◌≡◌, ◌++◌, take}
use Rattle.std.specs.List.{flat_map}
use Rattle.matrix_picture.specs.Matrices.{cell_text}
use Rattle.matrix_picture.proofs.matrix.push_cells.Given as goal

-- the cells so far were appended
abbrev pub invariant-betweens : goal.invariant-betweens
invariant-betweens l = l.bytes.items ≡ l.fn.bytes.items ++ flat_map (cell_text l.boxes) (take l.row-index l.betweens)
