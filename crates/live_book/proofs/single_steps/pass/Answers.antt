use Rattle.std.proofs.Common.{arith}
use Rattle.live_book.proofs.AllowLemmas.{pass_allowed}
use Rattle.live_book.proofs.single_steps.pass.Goals as goal

pub fetch_add-requires : goal.fetch_add-requires
fetch_add-requires c = let t = c.requires.table in let seat = c.args.seat.now in (
  t.here,
  (let words = t.shared.words in omega arith),
  pass_allowed c.args.shared.now.key c.args.shared.now.table_id.slots seat.id seat.me t.names t.all c.requires.turn t.shared.slots c.requires.slot,
)
