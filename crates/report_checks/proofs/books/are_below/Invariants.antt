use Rattle.std.proofs.Common.{All, take}
use Rattle.refute_tests.specs.Clearing.{HaveNamesBelow}
use Rattle.report_checks.proofs.books.are_below.Given as goal

abbrev pub invariant-traces : goal.invariant-traces
invariant-traces l = All (HaveNamesBelow l.names) (take l.trace-index l.traces)
