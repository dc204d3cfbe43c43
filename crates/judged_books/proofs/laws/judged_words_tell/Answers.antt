use Rattle.std.specs.List.{enumerate_from}
use Rattle.session_rules.specs.KeptTraces.{by_kept}
use Rattle.trace_types.specs.Parts.{by_number}
use Rattle.kept_books.specs.KeptBooks.{traces_in}
use Rattle.book_laws.proofs.GraphLemmas.{all_renamed}
use Rattle.judged_books.proofs.JudgedLemmas.{words_tell}
use Rattle.judged_books.proofs.laws.judged_words_tell.Goals as goal

pub returns : goal.returns
returns c = λ j given kept h.
    let known = j.book.known in
    words_tell
    (record { differ = c.places_differ.ensures; fit = c.places_fit.ensures; follow = c.pairs_follow.ensures; wider = c.below_wider.ensures })
    j given kept h
    (record { names = c.numbering_is_one_to_one.ensures.matched known.names; tasks = c.numbering_is_one_to_one-2.ensures.matched known.tasks })
    (record { exclusive = λ a b k. c.relations_are_symmetric.ensures.exclusive by_kept a b k; apart = λ a b k. c.relations_are_symmetric.ensures.apart by_kept a b k; unshared = λ t u k. c.relations_are_symmetric.ensures.unshared by_kept t u k })
    (c.renamed_traces_leave_alike.ensures.relations by_number by_kept (enumerate_from 0 known.names) (enumerate_from 0 known.tasks) (traces_in j.book) kept
    (c.numbering_is_one_to_one.ensures.one_to_one known.names h.judged.book.known.names_differ) (c.numbering_is_one_to_one-2.ensures.one_to_one known.tasks h.judged.book.known.tasks_differ)
    (all_renamed known (traces_in j.book) kept h.shown))
