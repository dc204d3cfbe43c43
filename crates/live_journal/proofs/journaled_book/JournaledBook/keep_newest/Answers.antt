use Rattle.std.proofs.Common.{◌≡◌, List, ◌∷◌, ◌++◌, [], length, ap, refl, rules, ◌∙◌, arith}
use Rattle.day_partitions.specs.Books.{BookState, KeptDay, all_traces}
use Rattle.live_journal.specs.declared.entry.Entry.{Entry}
use Rattle.live_journal.specs.declared.entry.Entry.TheVariants.{Kept}
use Rattle.live_journal.specs.Replays.{replay}
use Rattle.live_journal.proofs.BookLemmas.{grown}
use Rattle.live_journal.proofs.journaled_book.JournaledBook.keep_newest.Goals as goal

pub invariant_of-self-2 : goal.invariant_of-self-2
invariant_of-self-2 c = let e : Entry = Kept c.args.days in
    grown c.self.inside.book c.keep_newest-dropped.new.self c.self.inside.entries.items c.push_reserved.new.self.items e c.self.invariant
    (ap (λ (b : BookState). b.days) c.keep_newest-dropped.ensures.kept)
    (c.push_reserved.ensures.items ∙ ap (λ (es : List Entry). es ++ e ∷ []) c.make_room.ensures.same)
    c.in_ok-make_room.ensures.few tt

pub returns-clause-count : goal.returns-clause-count
returns-clause-count c = let e : Entry = Kept c.args.days in
    let es : List Entry = c.args.self.now.entries in
    let here : c.self.inside.entries.items ≡ es = search rules in
    let is = grown c.self.inside.book c.keep_newest-dropped.new.self c.self.inside.entries.items (c.self.inside.entries.items ++ e ∷ []) e c.self.invariant
    (ap (λ (b : BookState). b.days) c.keep_newest-dropped.ensures.kept) refl c.in_ok-make_room.ensures.few tt in
    let before = ap (λ (ks : List KeptDay). length (all_traces ks)) (c.self.invariant.days ∙ ap replay here) in
    let after = ap (λ (ks : List KeptDay). length (all_traces ks)) (is.days ∙ ap (λ (fs : List Entry). replay (fs ++ e ∷ [])) here) in
    omega (arith, c.keep_newest-dropped.ensures.count, before, after)
