-- What a job other than an add does to a session, and what is printed of it.
use Rattle.std.specs.Prelude.{ℕ, List, Option, Result, ⊤}
use Rattle.event_lines.specs.declared.command.Command.{Command}
use Rattle.event_lines.specs.declared.command.Command.TheVariants as commands
use Rattle.session_rules.specs.Parts.{IsPart, Part}
use Rattle.session_rules.specs.Sessions.{Does, State}
use Rattle.session_rules.specs.declared.job.Job.{Job}
use Rattle.session_rules.specs.declared.job.Job.TheVariants.{Add, Control, Summary, WhatIf, Tail}
use Rattle.session_rules.specs.declared.job.Job.TheVariants.{Why, Verify, Evidence}
use Rattle.text_rows.specs.TextsOfParts.{PrintsTexts}
use Rattle.text_rows.specs.declared.print_fault.PrintFault.{PrintFault}
use Rattle.session.specs.SessionStates.{SessionState, Shows}

-- the session shows the state that the job leaves from this one, and a call printed its parts, or a
-- fault stopped it at a prefix
pub record PrintsStep {S T : Type 0} (written : S → Option (List ℕ)) (faults : S → ℕ)
    (result : Result T PrintFault) (old new : S) (workers : ℕ) (job : Job) (s : State)
    (session : SessionState) (held holds : List ℕ) : Type 0 where
  pub parts : List Part
  pub next : State
  pub does : Does workers job s parts next
  pub shows : Shows session next
  pub printed : PrintsTexts written faults result old new IsPart parts held holds

-- likewise from each state that the session before shows
abbrev pub PrintsSteps : {S T : Type 0} → (S → Option (List ℕ)) → (S → ℕ) → Result T PrintFault
    → S → S → Job → SessionState → SessionState → List ℕ → List ℕ → Type 0
PrintsSteps written faults result old new job before session held holds = (s : State)
    → Shows before s
    → PrintsStep written faults result old new before.workers job s session held holds

-- the command prints a view of the kept traces and the given digest
abbrev pub IsView : Command → Type 0
IsView commands.Add = ⊥
IsView (commands.Drop day) = ⊥
IsView (commands.Keep days) = ⊥
IsView (commands.Watch every) = ⊥
IsView (commands.Grace micros) = ⊥
IsView commands.Model = ⊤
IsView commands.Paths = ⊤
IsView commands.Slack = ⊤
IsView commands.Report = ⊤
IsView commands.Graph = ⊤
IsView commands.Summarize = ⊤

-- the job is no command, and prints what the kept traces and the given digest leave
abbrev pub IsJudgedJob : Job → Type 0
IsJudgedJob (Add events) = ⊥
IsJudgedJob (Control command) = ⊥
IsJudgedJob Summary = ⊤
IsJudgedJob (WhatIf change) = ⊤
IsJudgedJob Tail = ⊤
IsJudgedJob Why = ⊥
IsJudgedJob (Verify claims) = ⊥
IsJudgedJob (Evidence choice) = ⊥
