use Rattle.std.proofs.Common.{◌≡◌, ◌++◌, take}
use Rattle.std.specs.List.{flat_map}
use Rattle.ranking_picture.specs.Tables.{item_text}
use Rattle.ranking_picture.proofs.table.push_items.Given as goal

-- the names so far were appended
abbrev pub invariant-rows : goal.invariant-rows
invariant-rows l = l.bytes.items ≡ l.fn.bytes.items ++ flat_map item_text (take l.row-index l.rows)
