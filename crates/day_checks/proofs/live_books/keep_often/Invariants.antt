use Rattle.live_book.specs.Callers.{IsOfBook}
use Rattle.day_checks.proofs.live_books.keep_often.Given as goal

abbrev pub invariant-keeps : goal.invariant-keeps
invariant-keeps g l = IsOfBook l.book l.caller
