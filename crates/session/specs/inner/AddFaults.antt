-- Why a batch is not added.
use Rattle.std.specs.Prelude.{List, ⊤}
use Rattle.day_partitions.specs.declared.add_all_fault.AddAllFault.{AddAllFault}
use Rattle.day_partitions.specs.declared.add_all_fault.AddAllFault.TheVariants as sheets
use Rattle.segment_names.specs.Known.{Known}
use Rattle.segment_names.specs.Limits.{PassesLimit}
use Rattle.segment_names.specs.declared.name_fault.NameFault.{NameFault}
use Rattle.segment_names.specs.declared.name_fault.NameFault.TheVariants as names
use Rattle.segment_names.specs.declared.name_fault.NameLimit.TheVariants as limits
use Rattle.session_rules.specs.Sessions.{Passes, State}
use Rattle.session_rules.specs.declared.job.Job.TheVariants.{Add}
use Rattle.session_rules.specs.declared.limit.Limit.TheVariants.{Names, Tasks, Days, Traces}
use Rattle.trace_types.specs.declared.event.Event.{Event}
use Rattle.trace_types.specs.declared.trace.Trace.{Trace}
use Rattle.session.specs.declared.add_fault.AddFault.{AddFault}
use Rattle.session.specs.declared.add_fault.AddFault.TheVariants.{Memory, Over}
use Rattle.session.specs.declared.command_fault.CommandFault.{CommandFault}
use Rattle.session.specs.declared.command_fault.CommandFault.TheVariants as commands

-- the fault of names that are not added
abbrev pub fault_of_names : NameFault → AddFault
fault_of_names names.Memory = Memory
fault_of_names (names.Over (limits.Names count)) = Over (Names count)
fault_of_names (names.Over (limits.Tasks count)) = Over (Tasks count)

-- the fault of sheets that are not added
abbrev pub fault_of_sheets : AddAllFault → AddFault
fault_of_sheets (sheets.Memory back) = Memory
fault_of_sheets (sheets.TooManyDays back days) = Over (Days days)

-- the fault of a job whose batch is not added
abbrev pub fault_of_add : AddFault → CommandFault
fault_of_add Memory = commands.Memory
fault_of_add (Over limit) = commands.Over limit

-- memory ran out, or the add passes this limit
abbrev pub HasAddCause : List Event → State → AddFault → Type 0
HasAddCause events s Memory = ⊤
HasAddCause events s (Over limit) = Passes (Add events) s limit

-- memory ran out, or the traces pass this limit of names or tasks
abbrev pub HasNamesCause : Known → List Trace → AddFault → Type 0
HasNamesCause known valid Memory = ⊤
HasNamesCause known valid (Over (Names count)) = PassesLimit known valid (limits.Names count)
HasNamesCause known valid (Over (Tasks count)) = PassesLimit known valid (limits.Tasks count)
HasNamesCause known valid (Over (Days count)) = ⊥
HasNamesCause known valid (Over Traces) = ⊥
