use Rattle.std.proofs.Common.{◌≡◌, ◌++◌, take}
use Rattle.std.specs.List.{flat_map}
use Rattle.ranking_picture.specs.Tables.{row_text}
use Rattle.ranking_picture.proofs.rows.push_segments.Given as goal

-- the rows so far were appended
abbrev pub invariant-rows : goal.invariant-rows
invariant-rows l = l.bytes.items ≡ l.fn.bytes.items ++ flat_map (row_text l.scale) (take l.row-index l.rows)
