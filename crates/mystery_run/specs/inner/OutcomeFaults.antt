-- What a run counts that ends so.
use Rattle.std.specs.Prelude.{ℕ}
use Rattle.mystery_io.specs.Counts.{counted_up}
use Rattle.mystery_run.specs.declared.outcome.Outcome.{Outcome}
use Rattle.mystery_run.specs.declared.outcome.Outcome.TheVariants.{Done, Memory, Arguments, BadLine}
use Rattle.mystery_run.specs.declared.outcome.Outcome.TheVariants.{File, Write, Size, Over}
use Rattle.mystery_run.specs.declared.outcome.Outcome.TheVariants.{OverGiven}

-- the count of faults of the sink after a run
abbrev pub outcome_faults : Outcome → ℕ → ℕ
outcome_faults Done count = count
outcome_faults Memory count = count
outcome_faults Arguments count = count
outcome_faults (BadLine line why) count = count
outcome_faults (File index) count = count
outcome_faults Write count = counted_up count
outcome_faults Size count = count
outcome_faults (Over limit) count = count
outcome_faults (OverGiven limit) count = count

-- the count of faults of the files after a run
abbrev pub outcome_read_faults : Outcome → ℕ → ℕ
outcome_read_faults Done count = count
outcome_read_faults Memory count = count
outcome_read_faults Arguments count = count
outcome_read_faults (BadLine line why) count = count
outcome_read_faults (File index) count = counted_up count
outcome_read_faults Write count = count
outcome_read_faults Size count = count
outcome_read_faults (Over limit) count = count
outcome_read_faults (OverGiven limit) count = count
