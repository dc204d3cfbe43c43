use Rattle.std.proofs.Common.{◌≡◌}
use Rattle.day_checks.proofs.journals.keep_often.Given as goal

abbrev pub invariant-keeps : goal.invariant-keeps
invariant-keeps l = l.book.names ≡ 2
