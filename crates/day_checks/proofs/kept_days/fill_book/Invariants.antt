use Rattle.std.proofs.Common.{◌≡◌}
use Rattle.day_checks.proofs.kept_days.fill_book.Given as goal

abbrev pub invariant-days : goal.invariant-days
invariant-days g l = l.book.names ≡ 512
