-- Which traces a session keeps, as a filter of all that its jobs ever took: a trace stays unless a
-- later job drops its day. No list of kept traces is changed here.
use Rattle.std.specs.Prelude.{◌≡◌, ℕ, ◌≤◌, Bool, false, not, ◌==◌, nat_le, List, [], ◌∷◌, ◌++◌}
use Rattle.std.specs.Prelude.{map, filter, AllPairs}
use Rattle.std.specs.List.{list_any}
use Rattle.digest_facts.specs.Digests.{Digest}
use Rattle.event_lines.specs.declared.command.Command.{Command}
use Rattle.event_lines.specs.declared.command.Command.TheVariants as commands
use Rattle.trace_types.specs.declared.trace.Trace.{Trace}
use Rattle.trace_types.specs.Batch.{traces_of}
use Rattle.trace_types.specs.Segments.{SegmentName}
use Rattle.session_rules.specs.declared.job.Job.{Job}
use Rattle.session_rules.specs.declared.job.Job.TheVariants.{Add, Control, Summary, WhatIf, Tail}
use Rattle.session_rules.specs.declared.job.Job.TheVariants.{Why, Verify, Evidence}
use Rattle.session_rules.specs.declared.refused.Refused.{Refused}
use Rattle.session_rules.specs.Batches.{AreJudged}
use Rattle.session_rules.specs.KeptTraces.{Kept, day_of, greater_days, traces_on}
use Rattle.session_rules.specs.Parts.{Part}
use Rattle.session_rules.specs.Sessions.{State, Does, Leads, first_state, graced}

-- a job that a session carried out, the state just before it, and the traces that it took
pub record PastJob : Type 0 where
  pub job : Job
  pub before : State
  pub took : List Kept

-- an add takes the valid traces of its batch, with the grace that holds; no other job takes any
abbrev pub Takes : Job → State → List Kept → Type 0
Takes (Add events) s took = (valid : List Trace) × (refused : List Refused)
    × AreJudged (traces_of events) valid refused × (took ≡ graced s valid)
Takes (Control command) s took = took ≡ []
Takes Summary s took = took ≡ []
Takes (WhatIf change) s took = took ≡ []
Takes Tail s took = took ≡ []
Takes Why s took = took ≡ []
Takes (Verify claims) s took = took ≡ []
Takes (Evidence choice) s took = took ≡ []

-- the command drops this day, where these are the traces that are kept just before: it names the
-- day, or keeps no more days than there are greater ones among them
abbrev pub command_drops : Command → List Kept → ℕ → Bool
command_drops commands.Add kept day = false
command_drops (commands.Drop dropped) kept day = day == dropped
command_drops (commands.Keep days) kept day = nat_le days (greater_days kept day)
command_drops (commands.Watch every) kept day = false
command_drops (commands.Grace micros) kept day = false
command_drops commands.Model kept day = false
command_drops commands.Paths kept day = false
command_drops commands.Slack kept day = false
command_drops commands.Report kept day = false
command_drops commands.Graph kept day = false
command_drops commands.Summarize kept day = false

-- the same of a job: only commands drop days
abbrev pub job_drops : Job → List Kept → ℕ → Bool
job_drops (Add events) kept day = false
job_drops (Control command) kept day = command_drops command kept day
job_drops Summary kept day = false
job_drops (WhatIf change) kept day = false
job_drops Tail kept day = false
job_drops Why kept day = false
job_drops (Verify claims) kept day = false
job_drops (Evidence choice) kept day = false

-- one of these jobs drops this day
abbrev pub is_dropped_by : List PastJob → ℕ → Bool
is_dropped_by past day = list_any (λ (p : PastJob). job_drops p.job p.before.kept day) past

-- of all traces that these jobs took those whose day no later job drops, in the order in which
-- they were taken
abbrev pub remaining_of : List PastJob → List Kept
remaining_of [] = []
remaining_of (p ∷ later) =
    filter (λ k. not (is_dropped_by later (day_of k))) p.took ++ remaining_of later

-- the traces are those that remain after these jobs: by day, and within a day in the order in which
-- they were taken
pub record AreRemaining (past : List PastJob) (kept : List Kept) : Type 0 where
  pub rising : AllPairs (λ (j k : Kept). day_of j ≤ day_of k) kept
  pub each : (day : ℕ) → traces_on day kept ≡ traces_on day (remaining_of past)

-- a session in this state carries out these jobs, one after another, and ends in the last state
abbrev pub ArePast : ℕ → List PastJob → State → State → Type 0
ArePast workers [] s last = last ≡ s
ArePast workers (p ∷ past) s last = (p.before ≡ s) × Takes p.job s p.took
    × ((parts : List Part) × (next : State) × Does workers p.job s parts next
    × ArePast workers past next last)

-- whatever digest is given to a session, and whatever jobs it carries out from its start, its kept
-- traces are those that remain after them, and just before each job those that remain after the
-- ones before it
abbrev pub KeptRemain : Type 0
KeptRemain = (workers : ℕ) (given : Digest SegmentName (List ℕ)) (jobs : List Job)
    (parts : List Part) (last : State) → Leads workers jobs (first_state given) parts last
    → (past : List PastJob) × (map (λ (p : PastJob). p.job) past ≡ jobs)
    × ArePast workers past (first_state given) last
    × AreRemaining past last.kept
    × ((earlier later : List PastJob) (p : PastJob) → past ≡ earlier ++ (p ∷ later)
    → AreRemaining earlier p.before.kept)

-- jobs leave one list of traces
abbrev pub OneListRemains : Type 0
OneListRemains = (past : List PastJob) (kept other : List Kept) → AreRemaining past kept
    → AreRemaining past other → kept ≡ other
