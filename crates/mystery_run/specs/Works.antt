-- What a call has to do with its preface and its input.
use Rattle.std.specs.Prelude.{ℕ, ◌++◌, List, [], ◌∷◌, Option, Some, None, Result, Ok, Err}
use Rattle.std.specs.Result.{result_map_both}
use Rattle.certificates.specs.Certificates.{certificate_said}
use Rattle.certificates.specs.declared.claim.Claim.{Claim}
use Rattle.digest_facts.specs.Tables.{Table}
use Rattle.digest_reading.specs.Readings.{digests_said}
use Rattle.drill_input.specs.DrillInput.{drill_input}
use Rattle.event_lines.specs.declared.command.Command.{Command}
use Rattle.event_lines.specs.declared.command.Command.TheVariants as commands
use Rattle.event_lines.specs.declared.line.Line.{Line}
use Rattle.event_lines.specs.declared.line.Line.TheVariants as line_kinds
use Rattle.event_lines.specs.InputLines.{LineFault, lines_said}
use Rattle.session_rules.specs.Jobs.{jobs_of}
use Rattle.session_rules.specs.declared.job.Job.{Job}
use Rattle.session_rules.specs.declared.job.Job.TheVariants.{Control, Summary, WhatIf, Tail}
use Rattle.session_rules.specs.declared.job.Job.TheVariants.{Why, Verify, Evidence}
use Rattle.step_core.specs.declared.step_file.StepFile.{StepFile}
use Rattle.step_core.specs.StepFiles.{file_said}
use Rattle.trace_types.specs.Segments.{SegmentName}
use Rattle.mystery_run.specs.declared.reason.Reason.{Reason}
use Rattle.mystery_run.specs.declared.reason.Reason.TheVariants as reasons
use Rattle.mystery_run.specs.declared.view.View.{View}
use Rattle.mystery_run.specs.declared.view.View.TheVariants.{Model, Paths, Slack, Report, Graph}
use Rattle.mystery_run.specs.declared.view.View.TheVariants.{Summarize}
use Rattle.mystery_run.specs.CommandLines.{Action, Call, view, what_if, tail, why, verify}
use Rattle.mystery_run.specs.CommandLines.{evidence, drill, replay}

-- jobs that a session carries out under the digest that these tables give, or a file of steps that
-- is replayed
pub data Work : Type 0 where
  Jobs : List (Table SegmentName (List ℕ)) → List Job → Work
  Steps : StepFile → Work

-- the first bad line of a preface or of an input, and why it is bad
pub record BadInput : Type 0 where
  pub line : ℕ
  pub why : Reason

-- what a preface says: the tables of the digests that are given, and the claims of the certificate
-- that is checked
pub record PrefaceSaid : Type 0 where
  pub tables : List (Table SegmentName (List ℕ))
  pub claims : List Claim

-- what the bytes of a preface say where these files are given, or their first bad line: digests,
-- one text after another; where none is given a certificate, which is empty where none is checked
-- and then makes no claims
abbrev pub preface_said : List (List ℕ) → List ℕ → Result PrefaceSaid BadInput
preface_said [] bytes = result_map_both (λ claims. record { tables = []; claims = claims })
    (λ line. record { line = line; why = reasons.Certificate }) (certificate_said bytes)
preface_said (file ∷ files) bytes =
    result_map_both (λ tables. record { tables = tables; claims = [] })
    (λ line. record { line = line; why = reasons.Summary }) (digests_said bytes)

-- the command that prints a view
abbrev pub view_command : View → Command
view_command Model = commands.Model
view_command Paths = commands.Paths
view_command Slack = commands.Slack
view_command Report = commands.Report
view_command Graph = commands.Graph
view_command Summarize = commands.Summarize

-- the last job that an action asks for, whose certificate makes these claims: none for a session,
-- whose control lines are all that is carried out, and for a replay, which has no jobs
abbrev pub last_job : Action → List Claim → Option Job
last_job (view v files) claims = Some (Control (view_command v))
last_job (what_if change files) claims = Some (WhatIf change)
last_job (tail files) claims = Some Tail
last_job (why files) claims = Some Why
last_job (verify file files) claims = Some (Verify claims)
last_job (evidence choice files) claims = Some (Evidence choice)
last_job (drill number traces) claims = Some Summary
last_job action claims = None

-- the jobs of lines under what these tables give; where there is a last job, the events since the
-- last add are added and then it is carried out. That add has no line in the input
abbrev pub jobs_with : List (Table SegmentName (List ℕ)) → Option Job → List Line → Work
jobs_with tables None lines = Jobs tables (jobs_of lines)
jobs_with tables (Some job) lines =
    Jobs tables (jobs_of (lines ++ line_kinds.Control 0 commands.Add ∷ []) ++ job ∷ [])

-- the jobs of what lines say and the last job, or the first bad line
abbrev pub work_from : List (Table SegmentName (List ℕ)) → Option Job
    → Result (List Line) LineFault → Result Work BadInput
work_from tables last said =
    result_map_both (jobs_with tables last)
    (λ (fault : LineFault). record { line = fault.line; why = reasons.Line fault.why }) said

-- the same of the lines of an input
abbrev pub jobs_said : List (Table SegmentName (List ℕ)) → Option Job → List ℕ
    → Result Work BadInput
jobs_said tables last input = work_from tables last (lines_said input)

-- the steps of an input, or the first line outside the form
abbrev pub steps_said : List ℕ → Result Work BadInput
steps_said input =
    result_map_both Steps (λ line. record { line = line; why = reasons.Step }) (file_said input)

-- what is to be done with an input and what a preface says, or the first bad line of the input; a
-- drill makes its input itself
abbrev pub work_with : Action → PrefaceSaid → List ℕ → Result Work BadInput
work_with (drill number traces) said input =
    jobs_said said.tables (last_job (drill number traces) said.claims) (drill_input number traces)
work_with (replay file) said input = steps_said input
work_with action said input = jobs_said said.tables (last_job action said.claims) input

-- the same of what a preface said: its first bad line comes before those of the input
abbrev pub work_after : Action → Result PrefaceSaid BadInput → List ℕ → Result Work BadInput
work_after action (Ok said) input = work_with action said input
work_after action (Err bad) input = Err bad

-- what a call has to do with a preface and an input, or the first bad line of the two
abbrev pub work_said : Call → List ℕ → List ℕ → Result Work BadInput
work_said call preface input = work_after call.action (preface_said call.given preface) input
