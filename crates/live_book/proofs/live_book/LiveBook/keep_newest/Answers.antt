use Rattle.std.proofs.Common.{List, ◌∙◌, ap, refl, rules}
use Rattle.live_journal.specs.declared.entry.Entry.{Entry}
use Rattle.live_journal.specs.declared.entry.Entry.TheVariants.{Kept}
use Rattle.live_journal.specs.Journals.{JournalState}
use Rattle.live_book.proofs.TurnLemmas.{commits}
use Rattle.live_book.proofs.live_book.LiveBook.keep_newest.Goals as goal

pub returns-in-Ok-clause-turn : goal.returns-in-Ok-clause-turn
returns-in-Ok-clause-turn g c =
    let e : Entry = Kept c.args.days in let found : List Entry = c.begin_turn-book.result.entries in let new = c.keep_newest.new.self in
    (commits e found new.entries c.args.caller.now _ c.caller.inside.seat.table_id c.commit_turn.new.seat.table_id c.caller.inside.seat.me.0 c.begin_turn-book.new.seat.me c.commit_turn.new.seat.me
    (search rules) refl (c.commit_turn.ensures.table ∙ c.begin_turn-book.ensures.table) c.begin_turn-book.ensures.turn c.commit_turn.ensures.seat (search rules)
    (ap (λ (x : JournalState). x.entries) c.in-Ok.ensures.added) c.in-Ok.ensures.journal c.commit_turn.ensures.history).turn
