-- Lines make jobs that sessions carry out.
use Rattle.std.proofs.Common.{◌≡◌, ◌⊎◌, ℕ, ◌+◌, ◌<◌, ◌≤◌, ◌^◌, List, [], ◌∷◌, ◌++◌, length, refl, arith, inl, inr}
use Rattle.std.specs.Prelude.{All, sum_by}
use Rattle.std.proofs.lemmas.List.{length-append}
use Rattle.std.proofs.lemmas.List.Elements.{All-append, All-cons, All-head, All-nil, All-push, All-tail}
use Rattle.std.proofs.lemmas.List.Sums.{sum_by-append, sum_by-cons}
use Rattle.event_lines.specs.GoodLines.{IsLimited, IsTimely}
use Rattle.event_lines.specs.declared.command.Command.{Command}
use Rattle.event_lines.specs.declared.command.Command.TheVariants as commands
use Rattle.event_lines.specs.declared.line.Line.{Line}
use Rattle.event_lines.specs.declared.line.Line.TheVariants as lines
use Rattle.session_rules.specs.ReadyJobs.{IsReady, IsReadyCommand, requests_in}
use Rattle.session_rules.specs.Jobs.{batch_after, job_of, jobs_from, jobs_of}
use Rattle.session_rules.specs.declared.job.Job.{Job}
use Rattle.session_rules.specs.declared.job.Job.TheVariants.{Add}
use Rattle.trace_types.specs.Times.{AreTimely, latest_time}
use Rattle.trace_types.specs.declared.event.Event.{Event}
use Rattle.trace_types.proofs.ShortLemmas.{requests_few}
use Rattle.session_laws.specs.ReadyLaws.{IsFurther}
use Rattle.session_rules.specs.ReadyJobs.{AreReady}

-- ---- requests

-- a job and the events that are left have no more requests than there were events
job_few : (batch : List Event) (command : Command) → requests_in (job_of batch command) + length (batch_after batch command) ≤ length batch
job_few batch commands.Add = omega (arith, requests_few batch)
job_few batch (commands.Drop day) = omega arith
job_few batch (commands.Keep days) = omega arith
job_few batch (commands.Watch every) = omega arith
job_few batch (commands.Grace micros) = omega arith
job_few batch commands.Model = omega arith
job_few batch commands.Paths = omega arith
job_few batch commands.Slack = omega arith
job_few batch commands.Report = omega arith
job_few batch commands.Graph = omega arith
job_few batch commands.Summarize = omega arith

sum_few : (batch : List Event) (ls : List Line) → sum_by requests_in (jobs_from batch ls) ≤ length batch + length ls
sum_few batch [] = omega arith
sum_few batch (lines.Event event ∷ ls) = omega (arith, sum_few (batch ++ event ∷ []) ls, length-append batch (event ∷ []))
sum_few batch (lines.Control line command ∷ ls) = omega (arith, sum_by-cons requests_in (job_of batch command) (jobs_from (batch_after batch command) ls), job_few batch command, sum_few (batch_after batch command) ls)

pub jobs_few : (ls : List Line) → sum_by requests_in (jobs_of ls) ≤ length ls
jobs_few ls = omega (arith, sum_few [] ls)

-- further commands bring no events
further_few : (batch : List Event) (more : List Line) → All IsFurther more → sum_by requests_in (jobs_from batch more) ≤ length batch
further_few batch [] h = omega arith
further_few batch (lines.Event event ∷ more) h = absurd (All-head IsFurther (lines.Event event) more h)
further_few batch (lines.Control line command ∷ more) h = omega (arith, sum_by-cons requests_in (job_of batch command) (jobs_from (batch_after batch command) more), job_few batch command, further_few (batch_after batch command) more (All-tail IsFurther (lines.Control line command) more h))

sum_all : (batch : List Event) (ls more : List Line) → All IsFurther more → sum_by requests_in (jobs_from batch (ls ++ more)) ≤ length batch + length ls
sum_all batch [] more h = omega (arith, further_few batch more h)
sum_all batch (lines.Event event ∷ ls) more h = omega (arith, sum_all (batch ++ event ∷ []) ls more h, length-append batch (event ∷ []))
sum_all batch (lines.Control line command ∷ ls) more h = omega (arith, sum_by-cons requests_in (job_of batch command) (jobs_from (batch_after batch command) (ls ++ more)), job_few batch command, sum_all (batch_after batch command) ls more h)

-- ---- jobs

-- the events of a batch, and the lines after them
record IsBatch (batch : List Event) (ls : List Line) : Type 0 where
  timely : AreTimely batch
  few : length batch + length ls < 2 ^ 32

add_ready : (batch : List Event) (ls : List Line) → IsBatch batch ls → IsReady (Add batch)
add_ready batch ls b = (b.timely, omega (arith, b.few))

job_ready : (batch : List Event) (ls : List Line) (line : ℕ) (command : Command) → IsBatch batch ls → (command ≡ commands.Add) ⊎ IsReadyCommand command → IsReady (job_of batch command)
job_ready batch ls line commands.Add b h = add_ready batch ls b
job_ready batch ls line (commands.Drop day) b h = tt
job_ready batch ls line (commands.Keep days) b h = tt
job_ready batch ls line (commands.Watch every) b h = tt
job_ready batch ls line (commands.Grace micros) b (inl e) = absurd (cc e)
job_ready batch ls line (commands.Grace micros) b (inr h) = h
job_ready batch ls line commands.Model b h = tt
job_ready batch ls line commands.Paths b h = tt
job_ready batch ls line commands.Slack b h = tt
job_ready batch ls line commands.Report b h = tt
job_ready batch ls line commands.Graph b h = tt
job_ready batch ls line commands.Summarize b h = tt

-- a command within its limit is an add or one that a session carries out
command_ready : (line : ℕ) (command : Command) → IsLimited (lines.Control line command) → (command ≡ commands.Add) ⊎ IsReadyCommand command
command_ready line commands.Add limited = inl refl
command_ready line (commands.Drop day) limited = inr tt
command_ready line (commands.Keep days) limited = inr tt
command_ready line (commands.Watch every) limited = inr tt
command_ready line (commands.Grace micros) limited = inr limited
command_ready line commands.Model limited = inr tt
command_ready line commands.Paths limited = inr tt
command_ready line commands.Slack limited = inr tt
command_ready line commands.Report limited = inr tt
command_ready line commands.Graph limited = inr tt
command_ready line commands.Summarize limited = inr tt

-- the events that a command leaves are a batch before the lines after it
batch_left : (batch : List Event) (line : ℕ) (command : Command) (ls : List Line) → IsBatch batch (lines.Control line command ∷ ls) → IsBatch (batch_after batch command) ls
batch_left batch line command ls b = by command
  where
    none : IsBatch [] ls
    none = record { timely = All-nil (λ (e : Event). e.time ≤ latest_time); few = omega (arith, b.few) }

    all : IsBatch batch ls
    all = record { timely = b.timely; few = omega (arith, b.few) }

    by : (c : Command) → IsBatch (batch_after batch c) ls
    by commands.Add = none
    by (commands.Drop day) = all
    by (commands.Keep days) = all
    by (commands.Watch every) = all
    by (commands.Grace micros) = all
    by commands.Model = all
    by commands.Paths = all
    by commands.Slack = all
    by commands.Report = all
    by commands.Graph = all
    by commands.Summarize = all

batch_more : (batch : List Event) (event : Event) (ls : List Line) → IsTimely (lines.Event event) → IsBatch batch (lines.Event event ∷ ls) → IsBatch (batch ++ event ∷ []) ls
batch_more batch event ls timely b = record {
  timely = All-push (λ (e : Event). e.time ≤ latest_time) batch event b.timely timely;
  few = omega (arith, b.few, length-append batch (event ∷ []));
}

-- after further commands the events so far are still a batch before none
further_ready : (batch : List Event) (more : List Line) → IsBatch batch [] → All IsFurther more → All IsReady (jobs_from batch more)
further_ready batch [] b h = All-nil IsReady
further_ready batch (lines.Event event ∷ more) b h = absurd (All-head IsFurther (lines.Event event) more h)
further_ready batch (lines.Control line command ∷ more) b h =
    All-cons IsReady (job_of batch command) (jobs_from (batch_after batch command) more)
    (job_ready batch [] line command b (All-head IsFurther (lines.Control line command) more h))
    (further_ready (batch_after batch command) more (by command) (All-tail IsFurther (lines.Control line command) more h))
  where
    by : (c : Command) → IsBatch (batch_after batch c) []
    by commands.Add = record { timely = All-nil (λ (e : Event). e.time ≤ latest_time); few = omega arith }
    by (commands.Drop day) = b
    by (commands.Keep days) = b
    by (commands.Watch every) = b
    by (commands.Grace micros) = b
    by commands.Model = b
    by commands.Paths = b
    by commands.Slack = b
    by commands.Report = b
    by commands.Graph = b
    by commands.Summarize = b

all_ready : (batch : List Event) (ls more : List Line) → IsBatch batch ls → All IsTimely ls → All IsLimited ls → All IsFurther more → All IsReady (jobs_from batch (ls ++ more))
all_ready batch [] more b timely limited h = further_ready batch more b h
all_ready batch (lines.Event event ∷ ls) more b timely limited h =
    all_ready (batch ++ event ∷ []) ls more (batch_more batch event ls (All-head IsTimely (lines.Event event) ls timely) b)
    (All-tail IsTimely (lines.Event event) ls timely) (All-tail IsLimited (lines.Event event) ls limited) h
all_ready batch (lines.Control line command ∷ ls) more b timely limited h =
    let c : Line = lines.Control line command in
    All-cons IsReady (job_of batch command) (jobs_from (batch_after batch command) (ls ++ more))
    (job_ready batch (c ∷ ls) line command b (command_ready line command (All-head IsLimited c ls limited)))
    (all_ready (batch_after batch command) ls more (batch_left batch line command ls b) (All-tail IsTimely c ls timely) (All-tail IsLimited c ls limited) h)

pub jobs_ready : (ls more : List Line) (last : List Job) → All IsTimely ls → All IsLimited ls → length ls < 2 ^ 32 → All IsFurther more → All IsReady last → sum_by requests_in last ≡ 0 → AreReady (jobs_of (ls ++ more) ++ last)
jobs_ready ls more last timely limited few h ready none = record {
  each = All-append IsReady (jobs_of (ls ++ more)) last
      (all_ready [] ls more (record { timely = All-nil (λ (e : Event). e.time ≤ latest_time); few = omega (arith, few) }) timely limited h)
      ready;
  few = omega (arith, few, sum_all [] ls more h, none, sum_by-append requests_in (jobs_of (ls ++ more)) last);
}
