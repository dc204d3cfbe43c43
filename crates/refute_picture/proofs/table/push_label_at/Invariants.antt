use Rattle.std.proofs.Common.{◌≡◌, ◌++◌, take}
use Rattle.std.specs.List.{flat_map}
use Rattle.refute_picture.specs.Refutes.{label_if}
use Rattle.refute_picture.proofs.table.push_label_at.Given as goal

-- the boxes so far were looked at
abbrev pub invariant-boxes : goal.invariant-boxes
invariant-boxes l = l.bytes.items ≡ l.fn.bytes.items ++ flat_map (label_if l.number) (take l.row-index l.boxes)
