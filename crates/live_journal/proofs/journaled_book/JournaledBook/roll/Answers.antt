use Rattle.std.proofs.Common.{◌≡◌, ◌<◌, ◌∷◌, ◌++◌, [], length, ap, ◌∙◌, arith}
use Rattle.day_partitions.specs.Books.{BookState}
use Rattle.live_journal.specs.declared.entry.Entry.{Entry}
use Rattle.live_journal.specs.declared.entry.Entry.TheVariants.{Rolled}
use Rattle.live_journal.proofs.BookLemmas.{grown}
use Rattle.live_journal.proofs.ReplayLemmas.{room_for}
use Rattle.live_journal.proofs.journaled_book.JournaledBook.roll.Goals as goal

pub add-requires-clause-counted : goal.add-requires-clause-counted
add-requires-clause-counted c =
    let few : length c.self.inside.entries.items < 10000 = (let most = c.self.invariant.journal.few in omega arith) in
    room_for c.self.inside.book.days c.self.inside.entries.items (length c.args.sheet.traces) c.self.invariant.days c.self.invariant.journal few c.requires.most

pub invariant_of-self-in-Ok-add : goal.invariant_of-self-in-Ok-add
invariant_of-self-in-Ok-add c =
    let few : length c.self.inside.entries.items < 10000 = (let most = c.self.invariant.journal.few in omega arith) in
    let same : c.in-Ok.traces ≡ c.args.sheet.traces = c.in-Ok.ensures ∙ c.traces.ensures in
    let e : Entry = Rolled c.args.day c.args.sheet.traces in
    grown c.self.inside.book c.add.new.self c.self.inside.entries.items c.push_reserved.new.self.items e c.self.invariant
    (ap (λ (b : BookState). b.days) c.in-Ok-add.ensures.added)
    (c.push_reserved.ensures.items ∙ (λ j. c.reserve.ensures.items j ++ Rolled c.args.day (same j) ∷ []))
    few (c.requires.sheet.some, c.requires.most)
