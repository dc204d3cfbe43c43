use Rattle.std.proofs.Common.{◌≡◌, ◌++◌}
use Rattle.room_picture.specs.Rooms.{IsRoomOrder, rooms_text}
use Rattle.room_picture.proofs.OrderLemmas.{told_rows}
use Rattle.room_picture.proofs.table.push_rooms.Goals as goal

pub returns : goal.returns
returns c =
    told_rows c.push_ordered.result (IsRoomOrder c.args.page.now) (λ rows. c.push_ordered.new.bytes.items ≡ c.args.bytes.now.items ++ rooms_text c.args.page.now rows) c.in_ok-rows.rows.items c.in_ok-rows.ensures
    (rw c.deref.ensures.value at c.push_ordered.ensures)
