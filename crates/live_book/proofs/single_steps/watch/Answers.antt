use Rattle.std.proofs.Common.{ℕ, ◌≡◌, ◌∙◌, ap, sym, arith}
use Rattle.live_book.specs.declared.rule.Stage.TheVariants.{Waiting}
use Rattle.live_book.specs.Views.{ticket_in}
use Rattle.live_book.proofs.AllowLemmas.{watch_allowed}
use Rattle.live_book.proofs.single_steps.watch.Goals as goal

pub load-requires : goal.load-requires
load-requires c = let t = c.requires.table in let seat = c.args.seat.now in
    let ticket : ticket_in seat.me.0.stage ≡ c.args.ticket = ap ticket_in c.requires.waits in (
      t.here,
      (let words = t.shared.words in omega arith),
      watch_allowed c.args.shared.now.key c.args.shared.now.table_id.slots seat.id seat.me t.names t.all (c.requires.waits ∙ ap (λ (n : ℕ). Waiting n) (sym ticket)),
    )
