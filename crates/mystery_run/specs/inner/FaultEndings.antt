-- The ending of a run whose jobs fail.
use Rattle.session.specs.declared.command_fault.CommandFault.{CommandFault}
use Rattle.session.specs.declared.command_fault.CommandFault.TheVariants as faults
use Rattle.mystery_run.specs.declared.outcome.Outcome.{Outcome}
use Rattle.mystery_run.specs.declared.outcome.Outcome.TheVariants.{Memory, Write, Over}

-- the ending of a run whose jobs end with this fault
abbrev pub outcome_of : CommandFault → Outcome
outcome_of faults.Memory = Memory
outcome_of faults.Write = Write
outcome_of (faults.Over limit) = Over limit
