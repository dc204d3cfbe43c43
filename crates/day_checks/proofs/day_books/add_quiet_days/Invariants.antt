use Rattle.std.proofs.Common.{◌≡◌}
use Rattle.day_checks.proofs.day_books.add_quiet_days.Given as goal

abbrev pub invariant-days : goal.invariant-days
invariant-days l = l.book.names ≡ 6
