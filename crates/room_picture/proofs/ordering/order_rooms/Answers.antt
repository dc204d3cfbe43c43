use Rattle.std.proofs.Common.{List, IsPermutation, subst}
use Rattle.page_rows.specs.declared.gain_rows.RoomRow.{RoomRow}
use Rattle.room_picture.proofs.ordering.order_rooms.Goals as goal

pub returns : goal.returns
returns c =
    let rows = rw c.rooms.ensures at c.in_ok-rows.ensures in
    record {
      once = subst (λ (rs : List RoomRow). IsPermutation rs c.order_rows.new.rows.items) rows c.order_rows.ensures.same;
      falling = c.in_ok-order_rows.ensures.sorted;
    }
