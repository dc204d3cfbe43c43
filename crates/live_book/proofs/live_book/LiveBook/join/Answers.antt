use Rattle.std.proofs.Common.{◌∙◌, refl, rules}
use Rattle.live_book.proofs.TurnLemmas.{takes_in}
use Rattle.live_book.proofs.live_book.LiveBook.join.Goals as goal

pub returns : goal.returns
returns c =
    takes_in c.args.caller.now c.args.other _ c.caller.inside.seat.table_id c.tell.new.seat.table_id c.other.inside.seat.table_id c.caller.inside.seat.me.0 c.other.inside.seat.me.0 c.caller.inside.seat.me.1
    c.join_seats.new.seat.me c.tell.new.seat.me (search rules) (search rules) refl (c.tell.ensures.table ∙ c.join_seats.ensures.table) c.join_seats.ensures.seat c.tell.ensures.seat
