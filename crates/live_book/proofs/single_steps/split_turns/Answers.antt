use Rattle.std.proofs.Common.{ℕ, ◌≤◌, sym, subst, arith}
use Rattle.live_book.proofs.AllowLemmas.{split_allowed}
use Rattle.live_book.proofs.single_steps.split_turns.Goals as goal

pub split_seat-requires : goal.split_seat-requires
split_seat-requires g c = let t = c.requires.table in let seat = c.args.seat.now in (
  t.here,
  (let words = t.shared.words in omega arith),
  split_allowed c.args.shared.now.key seat.id seat.me.0 t.names t.all c.requires.rests g.N.Counted.count (subst (λ (n : ℕ). n ≤ seat.me.0.turns) (sym c.requires.count.0) c.requires.count.1),
)
