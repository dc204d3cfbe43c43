-- The traces that a session keeps are printable, and few.
use Rattle.std.proofs.Common.{◌≡◌, ℕ, ◌+◌, ◌*◌, ◌≤◌, not, List, [], ◌∷◌, ◌++◌, Bool, length, map, refl, sym, ap, subst, arith, length-append}
use Rattle.std.specs.Prelude.{All, filter, nat_lt}
use Rattle.std.proofs.lemmas.List.{length-map}
use Rattle.std.proofs.lemmas.List.Elements.{All-append, All-cons, All-filter, All-head, All-nil, All-push, All-tail, All-weaker}
use Rattle.digest_facts.specs.Digests.{empty_digest}
use Rattle.event_lines.specs.declared.command.Command.{Command}
use Rattle.event_lines.specs.declared.command.Command.TheVariants as commands
use Rattle.event_lines.specs.declared.line.Line.{Line}
use Rattle.event_lines.specs.declared.line.Line.TheVariants as lines
use Rattle.session_rules.specs.Jobs.{IsNoAdd, batch_after, job_of, jobs_from, jobs_of}
use Rattle.session_rules.specs.KeptTraces.{Kept, day_of, greater_days, is_of_day, kept_with}
use Rattle.session_rules.specs.Parts.{Part}
use Rattle.session_rules.specs.Sessions.{Adds, Commands, Does, Leads, State, first_state, graced}
use Rattle.session_rules.specs.declared.job.Job.{Job}
use Rattle.session_rules.specs.declared.job.Job.TheVariants as jobs
use Rattle.trace_types.specs.declared.event.Event.{Event}
use Rattle.trace_types.specs.declared.trace.Trace.{Trace}
use Rattle.trace_types.proofs.ShortLemmas.{filter-short}
use Rattle.certificate_laws.specs.Printable.{IsPrintable}
use Rattle.certificate_laws.specs.PrintableLaws.{IsControl, IsLastState}
use Rattle.certificate_laws.proofs.EventLemmas.{IsGoodEvent, IsGoodLine, lines_good}
use Rattle.certificate_laws.proofs.TakenLemmas.{all_taken, length-with_taken}
use Rattle.certificate_laws.proofs.TraceLemmas.{IsPrintableTrace, valid_few, valid_printable}

-- ---- jobs

-- the events that a job adds
abbrev events_in : Job → List Event
events_in (jobs.Add events) = events
events_in (jobs.Control command) = []
events_in jobs.Summary = []
events_in (jobs.WhatIf change) = []
events_in jobs.Tail = []
events_in jobs.Why = []
events_in (jobs.Verify claims) = []
events_in (jobs.Evidence choice) = []

-- they are good
abbrev IsGoodJob : Job → Type 0
IsGoodJob job = All IsGoodEvent (events_in job)

-- the kept traces are printable, and at most so many
record AreKept (n : ℕ) (kept : List Kept) : Type 0 where
  printable : All IsPrintable kept
  few : length kept ≤ n

stay : (n m : ℕ) (kept now : List Kept) → AreKept n kept → now ≡ kept → n ≤ m → AreKept m now
stay n m kept now h e le = record { printable = subst (All IsPrintable) (sym e) h.printable; few = omega (arith, ap (λ (ks : List Kept). length ks) e, h.few) }

left_out : (n m : ℕ) (p : Kept → Bool) (kept now : List Kept) → AreKept n kept → now ≡ filter p kept → n ≤ m → AreKept m now
left_out n m p kept now h e le = record {
  printable = subst (All IsPrintable) (sym e) (All-filter p IsPrintable kept h.printable);
  few = omega (arith, ap (λ (ks : List Kept). length ks) e, filter-short p kept, h.few);
}

added : (n : ℕ) (workers : ℕ) (events : List Event) (s next : State) (parts : List Part) → AreKept n s.kept → All IsGoodEvent events → Adds workers events s parts next → AreKept (n + length events) next.kept
added n workers events s next parts h good a =
    let verdicts = a.judged.verdicts in
    let valid = subst (All IsPrintableTrace) (sym a.judged.valid_are) (valid_printable events verdicts good a.judged.each) in
    let more = graced s a.valid in
    let few : length a.valid ≤ length events = omega (arith, ap (λ (ts : List Trace). length ts) a.judged.valid_are, valid_few events verdicts a.judged.each) in
    let now = ap (λ (t : State). t.kept) a.after in
    record {
      printable = subst (All IsPrintable) (sym now) (all_taken IsPrintable s.kept more h.printable (graced_printable (1000 * s.grace) a.valid valid));
      few = omega (arith, ap (λ (ks : List Kept). length ks) now, length-with_taken s.kept more, length-map a.valid (kept_with (1000 * s.grace)), h.few);
    }
  where
    graced_printable : (grace : ℕ) (ts : List Trace) → All IsPrintableTrace ts → All IsPrintable (map (kept_with grace) ts)
    graced_printable grace [] p = All-nil IsPrintable
    graced_printable grace (t ∷ ts) p = All-cons IsPrintable (kept_with grace t) (map (kept_with grace) ts) (All-head IsPrintableTrace t ts p grace) (graced_printable grace ts (All-tail IsPrintableTrace t ts p))

commanded : (n : ℕ) (command : Command) (s next : State) (parts : List Part) → AreKept n s.kept → Commands command s parts next → AreKept (n + 0) next.kept
commanded n commands.Add s next parts h does = absurd does
commanded n (commands.Drop day) s next parts h does = left_out n (n + 0) (λ k. not (is_of_day day k)) s.kept next.kept h (ap (λ (t : State). t.kept) does.0) (omega arith)
commanded n (commands.Keep days) s next parts h does = left_out n (n + 0) (λ k. nat_lt (greater_days s.kept (day_of k)) days) s.kept next.kept h (ap (λ (t : State). t.kept) does.0) (omega arith)
commanded n (commands.Watch every) s next parts h does = stay n (n + 0) s.kept next.kept h (ap (λ (t : State). t.kept) does.0) (omega arith)
commanded n (commands.Grace micros) s next parts h does = stay n (n + 0) s.kept next.kept h (ap (λ (t : State). t.kept) does.0) (omega arith)
commanded n commands.Model s next parts h does = stay n (n + 0) s.kept next.kept h (ap (λ (t : State). t.kept) does.0) (omega arith)
commanded n commands.Paths s next parts h does = stay n (n + 0) s.kept next.kept h (ap (λ (t : State). t.kept) does.0) (omega arith)
commanded n commands.Slack s next parts h does = stay n (n + 0) s.kept next.kept h (ap (λ (t : State). t.kept) does.0) (omega arith)
commanded n commands.Report s next parts h does = stay n (n + 0) s.kept next.kept h (ap (λ (t : State). t.kept) does.0) (omega arith)
commanded n commands.Graph s next parts h does = stay n (n + 0) s.kept next.kept h (ap (λ (t : State). t.kept) does.0) (omega arith)
commanded n commands.Summarize s next parts h does = stay n (n + 0) s.kept next.kept h (ap (λ (t : State). t.kept) does.0) (omega arith)

done : (n workers : ℕ) (job : Job) (s next : State) (parts : List Part) → AreKept n s.kept → IsGoodJob job → Does workers job s parts next → AreKept (n + length (events_in job)) next.kept
done n workers (jobs.Add events) s next parts h good does = added n workers events s next parts h good does
done n workers (jobs.Control command) s next parts h good does = commanded n command s next parts h does
done n workers jobs.Summary s next parts h good does = stay n (n + 0) s.kept next.kept h (ap (λ (t : State). t.kept) does.0) (omega arith)
done n workers (jobs.WhatIf change) s next parts h good does = stay n (n + 0) s.kept next.kept h (ap (λ (t : State). t.kept) does.0) (omega arith)
done n workers jobs.Tail s next parts h good does = stay n (n + 0) s.kept next.kept h (ap (λ (t : State). t.kept) does.0) (omega arith)
done n workers jobs.Why s next parts h good does = stay n (n + 0) s.kept next.kept h (ap (λ (t : State). t.kept) does.0) (omega arith)
done n workers (jobs.Verify claims) s next parts h good does = stay n (n + 0) s.kept next.kept h (ap (λ (t : State). t.kept) does.0) (omega arith)
done n workers (jobs.Evidence choice) s next parts h good does = stay n (n + 0) s.kept next.kept h (ap (λ (t : State). t.kept) does.0) (omega arith)

-- ---- all jobs

-- how many events jobs add
abbrev count_events : List Job → ℕ
count_events [] = 0
count_events (job ∷ all) = length (events_in job) + count_events all

led_kept : (n workers : ℕ) (all : List Job) (s last : State) (parts : List Part) → AreKept n s.kept → All IsGoodJob all → Leads workers all s parts last → AreKept (n + count_events all) last.kept
led_kept n workers [] s last parts h good led = stay n (n + 0) s.kept last.kept h (ap (λ (t : State). t.kept) led.1) (omega arith)
led_kept n workers (job ∷ all) s last parts h good led =
    let next : State = led.1 in
    let first = done n workers job s next led.0 h (All-head IsGoodJob job all good) led.3 in
    let later = led_kept (n + length (events_in job)) workers all next last led.2 first (All-tail IsGoodJob job all good) led.4 in
    stay (n + length (events_in job) + count_events all) (n + count_events (job ∷ all)) last.kept last.kept later refl (omega arith)

-- ---- the jobs of lines

job_good : (batch : List Event) (command : Command) → All IsGoodEvent batch → IsGoodJob (job_of batch command)
job_good batch commands.Add h = h
job_good batch (commands.Drop day) h = All-nil IsGoodEvent
job_good batch (commands.Keep days) h = All-nil IsGoodEvent
job_good batch (commands.Watch every) h = All-nil IsGoodEvent
job_good batch (commands.Grace micros) h = All-nil IsGoodEvent
job_good batch commands.Model h = All-nil IsGoodEvent
job_good batch commands.Paths h = All-nil IsGoodEvent
job_good batch commands.Slack h = All-nil IsGoodEvent
job_good batch commands.Report h = All-nil IsGoodEvent
job_good batch commands.Graph h = All-nil IsGoodEvent
job_good batch commands.Summarize h = All-nil IsGoodEvent

left_good : (batch : List Event) (command : Command) → All IsGoodEvent batch → All IsGoodEvent (batch_after batch command)
left_good batch commands.Add h = All-nil IsGoodEvent
left_good batch (commands.Drop day) h = h
left_good batch (commands.Keep days) h = h
left_good batch (commands.Watch every) h = h
left_good batch (commands.Grace micros) h = h
left_good batch commands.Model h = h
left_good batch commands.Paths h = h
left_good batch commands.Slack h = h
left_good batch commands.Report h = h
left_good batch commands.Graph h = h
left_good batch commands.Summarize h = h

-- a job and the events that are left have no more events than there were
job_few : (batch : List Event) (command : Command) → length (events_in (job_of batch command)) + length (batch_after batch command) ≤ length batch
job_few batch commands.Add = omega arith
job_few batch (commands.Drop day) = omega arith
job_few batch (commands.Keep days) = omega arith
job_few batch (commands.Watch every) = omega arith
job_few batch (commands.Grace micros) = omega arith
job_few batch commands.Model = omega arith
job_few batch commands.Paths = omega arith
job_few batch commands.Slack = omega arith
job_few batch commands.Report = omega arith
job_few batch commands.Graph = omega arith
job_few batch commands.Summarize = omega arith

jobs_good : (batch : List Event) (ls : List Line) → All IsGoodEvent batch → All IsGoodLine ls → All IsGoodJob (jobs_from batch ls)
jobs_good batch [] h good = All-nil IsGoodJob
jobs_good batch (lines.Event event ∷ ls) h good =
    jobs_good (batch ++ event ∷ []) ls (All-push IsGoodEvent batch event h (All-head IsGoodLine (lines.Event event) ls good)) (All-tail IsGoodLine (lines.Event event) ls good)
jobs_good batch (lines.Control line command ∷ ls) h good =
    All-cons IsGoodJob (job_of batch command) (jobs_from (batch_after batch command) ls) (job_good batch command h)
    (jobs_good (batch_after batch command) ls (left_good batch command h) (All-tail IsGoodLine (lines.Control line command) ls good))

further_few : (batch : List Event) (more : List Line) → All IsControl more → count_events (jobs_from batch more) ≤ length batch
further_few batch [] h = omega arith
further_few batch (lines.Event event ∷ more) h = absurd (All-head IsControl (lines.Event event) more h)
further_few batch (lines.Control line command ∷ more) h = omega (arith, job_few batch command, further_few (batch_after batch command) more (All-tail IsControl (lines.Control line command) more h))

jobs_few : (batch : List Event) (ls more : List Line) → All IsControl more → count_events (jobs_from batch (ls ++ more)) ≤ length batch + length ls
jobs_few batch [] more h = omega (arith, further_few batch more h)
jobs_few batch (lines.Event event ∷ ls) more h = omega (arith, jobs_few (batch ++ event ∷ []) ls more h, length-append batch (event ∷ []))
jobs_few batch (lines.Control line command ∷ ls) more h = omega (arith, job_few batch command, jobs_few (batch_after batch command) ls more h)

control_good : (line : Line) → IsControl line → IsGoodLine line
control_good (lines.Event event) h = absurd h
control_good (lines.Control line command) h = tt

-- a job that adds nothing has no events
no_add_empty : (job : Job) → IsNoAdd job → events_in job ≡ []
no_add_empty (jobs.Add events) h = absurd h
no_add_empty (jobs.Control command) h = refl
no_add_empty jobs.Summary h = refl
no_add_empty (jobs.WhatIf change) h = refl
no_add_empty jobs.Tail h = refl
no_add_empty jobs.Why h = refl
no_add_empty (jobs.Verify claims) h = refl
no_add_empty (jobs.Evidence choice) h = refl

no_add_good : (job : Job) → IsNoAdd job → IsGoodJob job
no_add_good job h = subst (All IsGoodEvent) (sym (no_add_empty job h)) (All-nil IsGoodEvent)

after_few : (all after : List Job) → All IsNoAdd after → count_events (all ++ after) ≤ count_events all
after_few [] [] h = omega arith
after_few [] (job ∷ after) h = omega (arith, ap (λ (es : List Event). length es) (no_add_empty job (All-head IsNoAdd job after h)), after_few [] after (All-tail IsNoAdd job after h))
after_few (job ∷ all) after h = omega (arith, after_few all after h)

-- ---- the last state

last_kept : (input : List ℕ) (ls : List Line) (last : State) → IsLastState input ls last → AreKept (length ls) last.kept
last_kept input ls last h =
    let good = All-append IsGoodLine ls h.more (lines_good input ls h.said) (All-weaker IsControl IsGoodLine control_good h.more h.further) in
    let all : List Job = jobs_of (ls ++ h.more) ++ h.after in
    let jobs_are = All-append IsGoodJob (jobs_of (ls ++ h.more)) h.after (jobs_good [] (ls ++ h.more) (All-nil IsGoodEvent) good) (All-weaker IsNoAdd IsGoodJob no_add_good h.after h.no_adds) in
    let kept = led_kept 0 h.workers all (first_state empty_digest) last h.parts (record { printable = All-nil IsPrintable; few = omega arith }) jobs_are h.led in
    stay (0 + count_events all) (length ls) last.kept last.kept kept refl (omega (arith, after_few (jobs_of (ls ++ h.more)) h.after h.no_adds, jobs_few [] ls h.more h.further))

pub kept_printable : (input : List ℕ) (ls : List Line) (last : State) → IsLastState input ls last → All IsPrintable last.kept
kept_printable input ls last h = (last_kept input ls last h).printable

pub kept_few : (input : List ℕ) (ls : List Line) (last : State) → IsLastState input ls last → length last.kept ≤ length ls
kept_few input ls last h = (last_kept input ls last h).few
