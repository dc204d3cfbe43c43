use Rattle.std.proofs.Common.{◌≡◌, ◌++◌, take}
use Rattle.std.specs.List.{flat_map}
use Rattle.graph_picture.specs.Boxes.{box_if}
use Rattle.graph_picture.proofs.boxes.push_boxes.Given as goal

-- the boxes so far were appended
abbrev pub invariant-rows : goal.invariant-rows
invariant-rows l = l.bytes.items ≡ l.fn.bytes.items ++ flat_map (box_if l.page l.places) (take l.row-index l.rows)
