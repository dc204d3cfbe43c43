use Rattle.std.proofs.Common.{◌≡◌}
use Rattle.day_checks.proofs.threads.redo_all.Given as goal

abbrev pub invariant-entries : goal.invariant-entries
invariant-entries l = l.fresh.names ≡ 2
