-- What carrying out a job does to a session, and what it writes.
use Rattle.std.specs.Prelude.{◌≡◌, ◌⊎◌, ℕ, ◌++◌, List, length, Option, ⊤}
use Rattle.std.specs.Prelude.{Result, Ok, Err}
use Rattle.std.specs.Io.KnownBytes.{append_known}
use Rattle.day_partitions.specs.Books.{all_traces}
use Rattle.mystery_io.specs.Counts.{counted_up}
use Rattle.mystery_io.specs.Prefixes.{AppendsPrefix}
use Rattle.session_rules.specs.Parts.{Part, IsPart}
use Rattle.session_rules.specs.Sessions.{Does, Passes, State}
use Rattle.session_rules.specs.declared.job.Job.{Job}
use Rattle.text_rows.specs.TextsOfParts.{AreTexts}
use Rattle.text_rows.specs.declared.print_fault.PrintFault.{PrintFault}
use Rattle.text_rows.specs.declared.print_fault.PrintFault.TheVariants as printing
use Rattle.session.specs.SessionStates.{SessionState, Shows}
use Rattle.session.specs.declared.command_fault.CommandFault.{CommandFault}
use Rattle.session.specs.declared.command_fault.CommandFault.TheVariants.{Memory, Write, Over}

-- how many traces a session keeps
abbrev pub kept_count : SessionState → ℕ
kept_count session = length (all_traces session.book.days)

-- a job was carried out from this state: the session shows the state after it, and a text of its
-- parts was written
pub record CarriesOut (workers : ℕ) (job : Job) (s : State) (session : SessionState)
    (before now : Option (List ℕ)) : Type 0 where
  pub parts : List Part
  pub next : State
  pub does : Does workers job s parts next
  pub shows : Shows session next
  pub text : List ℕ
  pub told : AreTexts IsPart parts text
  pub written : now ≡ append_known before text

-- a job was cut short: a prefix of a text of its first parts was written
pub record CutsShort (workers : ℕ) (job : Job) (s : State) (before now : Option (List ℕ))
    : Type 0 where
  pub first : List Part
  pub left : List Part
  pub next : State
  pub does : Does workers job s (first ++ left) next
  pub text : List ℕ
  pub told : AreTexts IsPart first text
  pub prefix : AppendsPrefix before now text

-- why a job was not carried out, and what was written of its text; where memory ran out, nothing
-- or a prefix
abbrev pub HasCommandCause : CommandFault → ℕ → Job → State → Option (List ℕ) → Option (List ℕ)
    → Type 0
HasCommandCause Memory workers job s before now =
    (now ≡ before) ⊎ CutsShort workers job s before now
HasCommandCause Write workers job s before now = CutsShort workers job s before now
HasCommandCause (Over limit) workers job s before now = Passes job s limit × (now ≡ before)

-- the count of faults of the sink after a job
abbrev pub command_faults : {T : Type 0} → Result T CommandFault → ℕ → ℕ
command_faults (Ok x) count = count
command_faults (Err Memory) count = count
command_faults (Err Write) count = counted_up count
command_faults (Err (Over limit)) count = count

-- the fault is that of a limit
abbrev pub IsLimitFault : CommandFault → Type 0
IsLimitFault Memory = ⊥
IsLimitFault Write = ⊥
IsLimitFault (Over limit) = ⊤

-- the fault of a job whose text is not printed to its end
abbrev pub fault_of_print : PrintFault → CommandFault
fault_of_print printing.Memory = Memory
fault_of_print printing.Write = Write
