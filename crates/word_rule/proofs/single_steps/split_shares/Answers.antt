use Rattle.std.proofs.Common.{ℕ, ◌<◌, sym, subst, arith}
use Rattle.word_rule.proofs.RuleLemmas.{split_allowed}
use Rattle.word_rule.proofs.single_steps.split_shares.Goals as goal

pub split_seat-requires : goal.split_seat-requires
split_seat-requires g c = let plan = c.args.shared.now.key in let shared = c.requires.table.shared in let me = c.args.seat.now.me in (
  c.requires.table.here,
  (let words = shared.words in let some = shared.some_word in omega arith),
  split_allowed c.events_keep_sound.ensures plan c.args.seat.now.id me.0 g.N.Counted.count (subst (λ (n : ℕ). n < me.0.view.shares) (sym c.requires.count.0) c.requires.count.1) c.requires.rests,
)
