use Rattle.span_calls.specs.Calls.{AreBefore}
use Rattle.thread_checks.proofs.rows.list_calls.Given as goal

abbrev pub invariant-rows : goal.invariant-rows
invariant-rows l = AreBefore l.calls.items
