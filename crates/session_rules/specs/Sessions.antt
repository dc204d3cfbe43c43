-- What each job does to the state of a session, and which parts it prints.
use Rattle.std.specs.Prelude.{◌≡◌, ℕ, ◌+◌, ◌*◌, ◌^◌, ◌<◌, ◌≤◌, List, [], ◌∷◌, ◌++◌, length, map}
use Rattle.std.specs.Prelude.{Bool, Contains, filter, codes}
use Rattle.std.specs.List.{AllZip, zip}
use Rattle.std.specs.Ordering.{nat_cmp}
use Rattle.certificates.specs.declared.claim.Claim.{Claim}
use Rattle.digest_facts.specs.Digests.{Digest}
use Rattle.event_lines.specs.declared.command.Command.{Command}
use Rattle.event_lines.specs.declared.command.Command.TheVariants as commands
use Rattle.segment_names.specs.Known.{Known, with_traces}
use Rattle.segment_names.specs.Limits.{PassesLimit}
use Rattle.segment_names.specs.declared.name_fault.NameLimit.{NameLimit}
use Rattle.segment_names.specs.declared.name_fault.NameLimit.TheVariants as catalogue
use Rattle.trace_types.specs.declared.event.Event.{Event}
use Rattle.trace_types.specs.declared.trace.Trace.{Trace}
use Rattle.trace_types.specs.Batch.{traces_of}
use Rattle.trace_types.specs.Listing.{ListsExactly}
use Rattle.trace_types.specs.Segments.{SegmentName}
use Rattle.session_rules.specs.declared.job.Job.{Job}
use Rattle.session_rules.specs.declared.job.Job.TheVariants.{Add, Control, Summary, WhatIf, Tail}
use Rattle.session_rules.specs.declared.job.Job.TheVariants.{Why, Verify, Evidence}
use Rattle.session_rules.specs.declared.limit.Limit.{Limit}
use Rattle.session_rules.specs.declared.limit.Limit.TheVariants.{Names, Tasks, Days, Traces}
use Rattle.session_rules.specs.declared.named_change.NamedChange.{NamedChange}
use Rattle.session_rules.specs.declared.refused.Refused.{Refused}
use Rattle.session_rules.specs.Batches.{AreJudged}
use Rattle.session_rules.specs.KeptTraces.{Kept, day_of, days_of, kept_with, newest, traces_on}
use Rattle.session_rules.specs.KeptTraces.{with_taken, without_day}
use Rattle.session_rules.specs.ModelTexts.{traces_under}
use Rattle.session_rules.specs.Parts.{Part, Refusals, Watched, Dropped, KeptNewest, ModelOf, Header}
use Rattle.session_rules.specs.Parts.{PathOf, SlacksOf, GraphOf, ModelHead, ReportHead, DigestOf}
use Rattle.session_rules.specs.Parts.{LatenciesOf, SegmentOf, TailHead, TailOf, ForecastHead}
use Rattle.session_rules.specs.Parts.{ForecastOf, WhyHead, RefutedOf, Verdict, Verified, EvidenceOf}
use Rattle.session_rules.specs.Refutations.{Refutations, AreRefutations, IsVerdict, matters_of}
use Rattle.session_rules.specs.ReportTexts.{AreKeptNames}

-- the state of a session: the kept traces, by day and within a day in the order in which they were
-- taken; the given digest, of traces that are not at hand; its names and tasks, and then those of
-- all traces that were ever valid, by first sight; after how many of a worker's traces a watch line
-- is printed, 0 for none; and the grace of later adds, in microseconds
pub record State : Type 0 where
  pub kept : List Kept
  pub given : Digest SegmentName (List ℕ)
  pub known : Known
  pub watch : ℕ
  pub grace : ℕ

-- where a session starts to which this digest is given
abbrev pub first_state : Digest SegmentName (List ℕ) → State
first_state given = record {
  kept = [];
  given = given;
  known = record { names = given.names; tasks = given.tasks };
  watch = 0;
  grace = 0;
}

-- valid traces with the grace that holds
abbrev pub graced : State → List Trace → List Kept
graced s valid = map (kept_with (1000 * s.grace)) valid

-- the traces that are kept after an add of these
abbrev pub kept_after : State → List Trace → List Kept
kept_after s valid = with_taken s.kept (graced s valid)

-- the state after an add of these valid traces
abbrev pub state_after : State → List Trace → State
state_after s valid = record s {
  kept = kept_after s valid;
  known = with_traces s.known valid;
}

-- the most days of kept traces
abbrev pub most_days : ℕ
most_days = 64

-- an add of these valid traces passes this limit: that of names or of tasks at the first trace
-- after which there are too many, or else that of days, or else that of traces, which are counted
-- in 64 bits, those that the given digest stands for too
abbrev pub PassesLimitOf : State → List Trace → Limit → Type 0
PassesLimitOf s valid (Names count) = PassesLimit s.known valid (catalogue.Names count)
PassesLimitOf s valid (Tasks count) = PassesLimit s.known valid (catalogue.Tasks count)
PassesLimitOf s valid (Days count) = ((limit : NameLimit) → PassesLimit s.known valid limit → ⊥)
    × (most_days < length (days_of (kept_after s valid)))
    × (count ≡ length (days_of (kept_after s valid)))
PassesLimitOf s valid Traces = ((limit : NameLimit) → PassesLimit s.known valid limit → ⊥)
    × (length (days_of (kept_after s valid)) ≤ most_days)
    × (2 ^ 64 ≤ traces_under s.given (kept_after s valid))

-- the watch lines of each of these days of a batch
abbrev pub watch_parts : ℕ → ℕ → List Kept → List ℕ → List Part
watch_parts every workers traces days =
    map (λ day. Watched every workers day (traces_on day traces)) days

-- so many workers add a batch of events: no limit is passed, the valid traces are kept besides, and
-- the refused traces and the watch lines are printed, these by day
pub record Adds (workers : ℕ) (events : List Event) (s : State) (parts : List Part)
    (next : State) : Type 0 where
  pub valid : List Trace
  pub refused : List Refused
  pub judged : AreJudged (traces_of events) valid refused
  pub fits : (limit : Limit) → PassesLimitOf s valid limit → ⊥
  pub after : next ≡ state_after s valid
  pub days : List ℕ
  pub days_are : ListsExactly nat_cmp (Contains (map day_of (graced s valid))) days
  pub printed : parts ≡ Refusals refused ∷ watch_parts s.watch workers (graced s valid) days

-- the parts of a report on kept traces with these names: the header, the row of latencies, and a
-- row for each name
abbrev pub report_parts : Digest SegmentName (List ℕ) → List Kept → List SegmentName → List Part
report_parts given kept names =
    ReportHead given kept ∷ LatenciesOf kept ∷ map (SegmentOf given kept) names

-- the parts of a report on the slowest of them: the header, and a row for each name
abbrev pub tail_parts : Digest SegmentName (List ℕ) → List Kept → List SegmentName → List Part
tail_parts given kept names = TailHead kept ∷ map (TailOf given kept) names

-- the parts of a forecast: the header, and a row for each trace
abbrev pub forecast_parts : NamedChange → Digest SegmentName (List ℕ) → List Kept → List Part
forecast_parts change given kept =
    ForecastHead change given kept ∷ map (ForecastOf change given kept) kept

-- the first row of the model, and the first two of the report on kept traces
abbrev pub summary_parts : Digest SegmentName (List ℕ) → List Kept → List Part
summary_parts given kept = ModelHead given kept ∷ ReportHead given kept ∷ LatenciesOf kept ∷ []

-- the parts of a certificate of kept traces that refute these relations: the header, and a row for
-- each relation
abbrev pub why_parts : List Kept → Refutations → List Part
why_parts kept refuted =
    WhyHead (length kept) (length (matters_of refuted))
    ∷ map (RefutedOf kept) (matters_of refuted)

-- the part of a claim with its verdict
abbrev pub verdict_part : Claim × Bool → Part
verdict_part p = Verdict p.1 p.0.line

-- the parts of a check of claims with these verdicts: one for each claim, and how many are shown
abbrev pub verify_parts : List Claim → List Bool → List Part
verify_parts claims verdicts =
    map verdict_part (zip claims verdicts)
    ++ Verified (length (filter (λ v. v) verdicts)) (length claims) ∷ []

-- a command over the state prints these parts and leaves this state; an add is a job of its own
abbrev pub Commands : Command → State → List Part → State → Type 0
Commands commands.Add s parts next = ⊥
Commands (commands.Drop day) s parts next =
    (next ≡ record s { kept = without_day day s.kept })
    × (parts ≡ Dropped day (length (traces_on day s.kept)) ∷ [])
Commands (commands.Keep days) s parts next = (next ≡ record s { kept = newest days s.kept })
    × ((count : ℕ) × (length (newest days s.kept) + count ≡ length s.kept)
    × (parts ≡ KeptNewest days count ∷ []))
Commands (commands.Watch every) s parts next = (next ≡ record s { watch = every }) × (parts ≡ [])
Commands (commands.Grace micros) s parts next = (next ≡ record s { grace = micros }) × (parts ≡ [])
Commands commands.Model s parts next = (next ≡ s) × (parts ≡ ModelOf s.given s.kept ∷ [])
Commands commands.Paths s parts next = (next ≡ s)
    × (parts ≡ Header (codes "paths") (length s.kept) ∷ map (PathOf s.given s.kept) s.kept)
Commands commands.Slack s parts next = (next ≡ s)
    × (parts ≡ Header (codes "slack") (length s.kept) ∷ map (SlacksOf s.given s.kept) s.kept)
Commands commands.Report s parts next = (next ≡ s) × ((names : List SegmentName)
    × AreKeptNames s.kept names × (parts ≡ report_parts s.given s.kept names))
Commands commands.Graph s parts next = (next ≡ s)
    × (parts ≡ Header (codes "graph") (length s.kept) ∷ map (GraphOf s.given s.kept) s.kept)
Commands commands.Summarize s parts next = (next ≡ s) × (parts ≡ DigestOf s.given s.kept ∷ [])

-- a job over the state prints these parts and leaves this state
abbrev pub Does : ℕ → Job → State → List Part → State → Type 0
Does workers (Add events) s parts next = Adds workers events s parts next
Does workers (Control command) s parts next = Commands command s parts next
Does workers Summary s parts next = (next ≡ s) × (parts ≡ summary_parts s.given s.kept)
Does workers (WhatIf change) s parts next = (next ≡ s)
    × (parts ≡ forecast_parts change s.given s.kept)
Does workers Tail s parts next = (next ≡ s) × ((names : List SegmentName)
    × AreKeptNames s.kept names × (parts ≡ tail_parts s.given s.kept names))
Does workers Why s parts next = (next ≡ s) × ((refuted : Refutations)
    × AreRefutations s.kept refuted × (parts ≡ why_parts s.kept refuted))
Does workers (Verify claims) s parts next = (next ≡ s) × ((verdicts : List Bool)
    × AllZip (IsVerdict s.kept) claims verdicts × (parts ≡ verify_parts claims verdicts))
Does workers (Evidence choice) s parts next = (next ≡ s) × (parts ≡ EvidenceOf choice s.kept ∷ [])

-- a job passes this limit: it prints nothing. None but an add passes one
abbrev pub Passes : Job → State → Limit → Type 0
Passes (Add events) s limit = (valid : List Trace) × (refused : List Refused)
    × AreJudged (traces_of events) valid refused × PassesLimitOf s valid limit
Passes job s limit = ⊥

-- jobs, one after another, print these parts and leave this state
abbrev pub Leads : ℕ → List Job → State → List Part → State → Type 0
Leads workers [] s parts last = (parts ≡ []) × (last ≡ s)
Leads workers (job ∷ jobs) s parts last = (first : List Part) × (next : State)
    × (rest : List Part) × Does workers job s first next × Leads workers jobs next rest last
    × (parts ≡ first ++ rest)
