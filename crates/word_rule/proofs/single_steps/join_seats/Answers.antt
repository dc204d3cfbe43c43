use Rattle.std.proofs.Common.{arith}
use Rattle.word_rule.proofs.RuleLemmas.{join_allowed}
use Rattle.word_rule.proofs.single_steps.join_seats.Goals as goal

pub join_seat-requires : goal.join_seat-requires
join_seat-requires c = let plan = c.args.shared.now.key in let shared = c.requires.table.shared in (
  c.requires.table.here,
  c.requires.same_table,
  c.requires.other.1,
  (let words = shared.words in let some = shared.some_word in omega arith),
  join_allowed c.events_keep_sound.ensures plan c.args.seat.now.id c.args.seat.now.me.0 c.args.other.id c.args.other.me.0 c.requires.share c.requires.rests c.requires.other.0 c.requires.carried,
)
