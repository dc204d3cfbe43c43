use Rattle.std.proofs.Common.{◌≡◌, take}
use Rattle.std.specs.List.{flat_map}
use Rattle.room_picture.specs.Rooms.{row_if_free}
use Rattle.room_picture.proofs.ordering.list_rows.Given as goal

-- the rows so far
abbrev pub invariant-rooms : goal.invariant-rooms
invariant-rooms l = l.rows.items ≡ flat_map row_if_free (take l.row-index l.rooms)
