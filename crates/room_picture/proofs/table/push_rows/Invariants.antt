use Rattle.std.proofs.Common.{◌≡◌, ◌++◌, take}
use Rattle.std.specs.List.{flat_map}
use Rattle.room_picture.specs.Rooms.{row_text}
use Rattle.room_picture.proofs.table.push_rows.Given as goal

-- the rows so far were appended
abbrev pub invariant-rows : goal.invariant-rows
invariant-rows l = l.bytes.items ≡ l.fn.bytes.items ++ flat_map (row_text l.least l.full) (take l.row-index l.rows)
