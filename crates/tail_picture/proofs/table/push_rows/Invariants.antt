use Rattle.std.proofs.Common.{◌≡◌, ◌++◌, take}
use Rattle.std.specs.List.{flat_map}
use Rattle.tail_picture.specs.Tails.{row_text}
use Rattle.tail_picture.proofs.table.push_rows.Given as goal

-- the rows so far were appended
abbrev pub invariant-rows : goal.invariant-rows
invariant-rows l = l.bytes.items ≡ l.fn.bytes.items ++ flat_map (row_text l.page l.width) (take l.row-index l.rows)
