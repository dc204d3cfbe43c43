use Rattle.live_book.specs.Callers.{IsOfBook}
use Rattle.day_checks.proofs.threads.work.Given as goal

abbrev pub invariant-calls : goal.invariant-calls
invariant-calls g l = IsOfBook l.book l.caller
