use Rattle.std.proofs.Common.{All, take}
use Rattle.refute_tests.specs.Clearing.{HaveNamesBelow}
use Rattle.model_checks.proofs.inputs.are_below.Given as goal

abbrev pub invariant-loop-trace : goal.invariant-loop-trace
invariant-loop-trace l = All (HaveNamesBelow l.names) (take l.trace-index l.traces)
