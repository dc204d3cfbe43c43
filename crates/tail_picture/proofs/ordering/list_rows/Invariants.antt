use Rattle.std.proofs.Common.{◌≡◌, take}
use Rattle.std.specs.List.{flat_map}
use Rattle.tail_picture.specs.Tails.{row_if_seen}
use Rattle.tail_picture.proofs.ordering.list_rows.Given as goal

-- the rows so far
abbrev pub invariant-segments : goal.invariant-segments
invariant-segments l = l.rows.items ≡ flat_map (row_if_seen l.head) (take l.row-index l.segments)
