use Rattle.std.proofs.Common.{◌≡◌, ◌∙◌, ℕ, List, ◌∷◌, ap, sym}
use Rattle.std.specs.Prelude.{Option, Some}
use Rattle.atomic_table.specs.Table.{rest}
use Rattle.live_journal.specs.Journals.{JournalState, journal}
use Rattle.live_book.specs.Rule.{CallerSeat}
use Rattle.live_book.proofs.turns.begin_turn.Goals as goal

pub exchange-requires : goal.exchange-requires
exchange-requires g c =
    let takes = c.await_turn.ensures.seat in let drawn = c.draw_ticket-ticket.new.seat.me in
    let book : Option JournalState = Some (journal drawn.0.names takes.found) in
    let out : c.see.new.seat.me.1 ≡ (0, book) ∷ drawn.1 = ap (λ (x : CallerSeat). x.1) c.see.ensures.seat ∙ ap (λ (x : CallerSeat). x.1) takes.seat in (
      c.see.ensures.table ∙ c.await_turn.ensures.table ∙ c.draw_ticket-ticket.ensures.table ∙ c.requires.table.here,
      (book, out ∙ ap (λ (r : List (ℕ × Option JournalState)). (0, book) ∷ r) (sym (ap rest out))),
    )
