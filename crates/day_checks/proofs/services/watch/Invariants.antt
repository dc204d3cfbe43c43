use Rattle.live_book.specs.Callers.{IsOfBook}
use Rattle.day_checks.proofs.services.watch.Given as goal

abbrev pub invariant-days : goal.invariant-days
invariant-days g l = IsOfBook l.book l.caller
