use Rattle.std.proofs.Common.{List, ◌∷◌, ◌++◌, [], ap, ◌∙◌}
use Rattle.day_partitions.specs.Books.{BookState}
use Rattle.live_journal.specs.declared.entry.Entry.{Entry}
use Rattle.live_journal.specs.declared.entry.Entry.TheVariants.{Dropped}
use Rattle.live_journal.proofs.BookLemmas.{grown}
use Rattle.live_journal.proofs.journaled_book.JournaledBook.drop_day.Goals as goal

pub invariant_of-self-2 : goal.invariant_of-self-2
invariant_of-self-2 c = let e : Entry = Dropped c.args.day in
    grown c.self.inside.book c.drop_day-dropped.new.self c.self.inside.entries.items c.push_reserved.new.self.items e c.self.invariant
    (ap (λ (b : BookState). b.days) c.drop_day-dropped.ensures.dropped)
    (c.push_reserved.ensures.items ∙ ap (λ (es : List Entry). es ++ e ∷ []) c.make_room.ensures.same)
    c.in_ok-make_room.ensures.few tt
