use Rattle.view_rows.proofs.ModelShownLemmas.{found_shown}
use Rattle.view_rows.proofs.shown.found_is_shown.Goals as goal

pub returns : goal.returns
returns c = λ j given kept m is found.
    found_shown j given kept m is found (c.judged_words_tell.ensures j given kept is) (c.numbering_is_one_to_one.ensures.matched j.book.known.names) (c.numbering_is_one_to_one-2.ensures.matched j.book.known.tasks)
