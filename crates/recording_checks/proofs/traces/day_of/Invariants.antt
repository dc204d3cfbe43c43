use Rattle.std.proofs.Common.{◌≡◌, length}
use Rattle.std.specs.List.{All}
use Rattle.refute_tests.specs.Clearing.{HaveNamesBelow}
use Rattle.recording_checks.proofs.traces.day_of.Given as goal

abbrev pub invariant-loop-k : goal.invariant-loop-k
invariant-loop-k l = record { named : All (HaveNamesBelow 2) l.traces.items; count : length l.traces.items ≡ l.k }
