use Rattle.std.proofs.Common.{All}
use Rattle.refute_tests.specs.Clearing.{HaveNamesBelow}
use Rattle.day_checks.proofs.day_books.has_plain_words.Given as goal

abbrev pub invariant-days : goal.invariant-days
invariant-days l = All (HaveNamesBelow l.names) l.traces.items
