use Rattle.std.proofs.Common.{◌≡◌, length}
use Rattle.thread_checks.proofs.rows.mark_forked.Given as goal

abbrev pub invariant-contexts : goal.invariant-contexts
invariant-contexts l = length l.forked.items ≡ l.at
