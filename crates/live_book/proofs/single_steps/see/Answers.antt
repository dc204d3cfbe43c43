use Rattle.std.proofs.Common.{arith}
use Rattle.live_book.proofs.AllowLemmas.{see_allowed}
use Rattle.live_book.proofs.single_steps.see.Goals as goal

pub load-requires : goal.load-requires
load-requires c = let t = c.requires.table in let seat = c.args.seat.now in (
  t.here,
  (let words = t.shared.words in omega arith),
  see_allowed c.args.shared.now.key c.args.shared.now.table_id.slots seat.id seat.me t.names t.all c.requires.turn,
)
