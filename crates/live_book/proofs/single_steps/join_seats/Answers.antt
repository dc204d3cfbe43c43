use Rattle.std.proofs.Common.{arith}
use Rattle.live_book.proofs.AllowLemmas.{join_allowed}
use Rattle.live_book.proofs.single_steps.join_seats.Goals as goal

pub join_seat-requires : goal.join_seat-requires
join_seat-requires c = let t = c.requires.table in let seat = c.args.seat.now in let other = c.args.other in (
  t.here,
  c.requires.same_table,
  c.requires.other.1,
  (let words = t.shared.words in omega arith),
  join_allowed c.args.shared.now.key seat.id seat.me.0 t.names t.all c.requires.rests other.id other.me.0 c.requires.other.0,
)
