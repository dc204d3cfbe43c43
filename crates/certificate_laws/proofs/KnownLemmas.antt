-- What a session knows: few names and few tasks, and those of all kept traces.
use Rattle.std.proofs.Common.{◌≡◌, ℕ, zero, suc, ◌+◌, ◌*◌, ◌<◌, ◌≤◌, not, List, [], ◌∷◌, ◌++◌, Bool, length, map, take, refl, sym, subst, inl, inr, arith, length-append}
use Rattle.std.specs.Prelude.{All, Contains, filter, flat_map, nat_lt, slice_index_or}
use Rattle.std.specs.Str.{bytes_eq}
use Rattle.std.proofs.Math.Seq.{take-length}
use Rattle.std.proofs.lemmas.Bool.{cases_lt}
use Rattle.std.proofs.lemmas.List.Elements.{All-contains_itself, All-filter, All-map, All-nil, All-weaker, Contains-append_left, Contains-append_right, Contains-get_or}
use Rattle.digest_facts.specs.Digests.{empty_digest}
use Rattle.event_lines.specs.declared.command.Command.{Command}
use Rattle.event_lines.specs.declared.command.Command.TheVariants as commands
use Rattle.event_lines.specs.declared.line.Line.{Line}
use Rattle.segment_names.specs.Known.{Known, same_name, with_traces}
use Rattle.segment_names.specs.Limits.{Fits, PassesLimit}
use Rattle.segment_names.specs.declared.name_fault.NameLimit.TheVariants.{Names, Tasks}
use Rattle.session_rules.specs.KeptTraces.{Kept, day_of, greater_days, is_of_day, kept_with}
use Rattle.session_rules.specs.Parts.{Part}
use Rattle.session_rules.specs.Sessions.{Adds, Commands, Does, Leads, State, first_state, graced}
use Rattle.session_rules.specs.declared.job.Job.{Job}
use Rattle.session_rules.specs.declared.job.Job.TheVariants as jobs
use Rattle.session_rules.specs.declared.limit.Limit.TheVariants.{Names, Tasks}
use Rattle.trace_types.specs.Segments.{name_of, task_of}
use Rattle.trace_types.specs.declared.event.Event.{Event}
use Rattle.trace_types.specs.declared.segment.Segment.{Segment}
use Rattle.trace_types.specs.declared.trace.Trace.{Trace}
use Rattle.trace_types.proofs.ComparingLemmas.{text_means}
use Rattle.segment_names.proofs.TextLemmas.{name_means}
use Rattle.trace_types.proofs.ElementLemmas.{contains_map, Contains-flat_map}
use Rattle.trace_types.proofs.ShortLemmas.{firsts-short}
use Rattle.certificate_laws.specs.PrintableLaws.{IsLastState}
use Rattle.certificate_laws.proofs.ListLemmas.{contains_firsts}
use Rattle.certificate_laws.proofs.TakenLemmas.{all_taken}

-- ---- names and tasks that are known

-- the segment's name and its task are known
pub record IsKnownSegment (known : Known) (s : Segment) : Type 0 where
  pub name : Contains known.names (name_of s)
  pub task : Contains known.tasks (task_of s)

-- those of all segments of the trace are
abbrev pub IsKnownTrace : Known → Kept → Type 0
IsKnownTrace known k = All (IsKnownSegment known) k.trace.segments

module _ (known : Known) (valid : List Trace) where
  segments_in : List Segment
  segments_in = flat_map (λ (t : Trace). t.segments) valid

  still_known : (s : Segment) → IsKnownSegment known s → IsKnownSegment (with_traces known valid) s
  still_known s h = record {
    name = contains_firsts same_name name_means _ (name_of s) (Contains-append_left known.names _ (name_of s) h.name);
    task = contains_firsts bytes_eq text_means _ (task_of s) (Contains-append_left known.tasks _ (task_of s) h.task);
  }

  trace_still_known : (k : Kept) → IsKnownTrace known k → IsKnownTrace (with_traces known valid) k
  trace_still_known k h = All-weaker (IsKnownSegment known) (IsKnownSegment (with_traces known valid)) still_known k.trace.segments h

  now_known : (t : Trace) (s : Segment) → Contains valid t → Contains t.segments s → IsKnownSegment (with_traces known valid) s
  now_known t s c d =
      let there = Contains-flat_map (λ (u : Trace). u.segments) valid t s c d in
      record {
        name = contains_firsts same_name name_means _ (name_of s) (Contains-append_right known.names _ (name_of s) (contains_map name_of _ s there));
        task = contains_firsts bytes_eq text_means _ (task_of s) (Contains-append_right known.tasks _ (task_of s) (contains_map task_of _ s there));
      }

  graced_known : (grace : ℕ) → All (IsKnownTrace (with_traces known valid)) (map (kept_with grace) valid)
  graced_known grace = All-map (IsKnownTrace (with_traces known valid)) (kept_with grace) valid
      (All-weaker (Contains valid) (λ (t : Trace). IsKnownTrace (with_traces known valid) (kept_with grace t))
      (λ t c k d within. now_known t (slice_index_or t.segments k d) c (Contains-get_or t.segments k d within)) valid (All-contains_itself valid))

-- ---- limits that are not passed

module _ (known : Known) (valid : List Trace) (fits : Fits known) where
  none_fits : Fits (with_traces known [])
  none_fits =
      let names : length known.names ≤ 512 = fits.0 in
      let tasks : length known.tasks ≤ 64 = fits.1 in
      (omega (arith, firsts-short same_name (known.names ++ []), length-append known.names []), omega (arith, firsts-short bytes_eq (known.tasks ++ []), length-append known.tasks []))

  module _ (names : (count : ℕ) → PassesLimit known valid (Names count) → ⊥) (tasks : (count : ℕ) → PassesLimit known valid (Tasks count) → ⊥) where
    one_fits : (k : ℕ) → k < length valid → ((j : ℕ) → j ≤ k → Fits (with_traces known (take j valid))) → Fits (with_traces known (take (k + 1) valid))
    one_fits k within before =
        let after : Known = with_traces known (take (k + 1) valid) in
        elim (cases_lt 512 (length after.names)) [
          | inl many ↦ absurd (names (length after.names) (k, within, before, (many, refl)))
          | inr few ↦ elim (cases_lt 64 (length after.tasks)) [
            | inl many ↦ absurd (tasks (length after.tasks) (k, within, before, (few, many, refl)))
            | inr fewer ↦ (few, fewer)
          ]
        ]

    each_fits : (k : ℕ) → k ≤ length valid → (j : ℕ) → j ≤ k → Fits (with_traces known (take j valid))
    each_fits zero within zero before = none_fits
    each_fits zero within (suc j) before = absurd (omega arith)
    each_fits (suc k) within j before = elim (cases_lt j (suc k)) [
      | inl less ↦ each_fits k (omega arith) j (omega arith)
      | inr more ↦
          let last : k + 1 ≡ j = omega arith in
          subst (λ (n : ℕ). Fits (with_traces known (take n valid))) last (one_fits k (omega arith) (each_fits k (omega arith)))
    ]

    all_fit : Fits (with_traces known valid)
    all_fit = subst (λ (ts : List Trace). Fits (with_traces known ts)) (take-length valid) (each_fits (length valid) (omega arith) (length valid) (omega arith))

-- ---- jobs

-- few names and tasks are known, and those of the kept traces are
pub record IsKnowing (s : State) : Type 0 where
  pub fits : Fits s.known
  pub each : All (IsKnownTrace s.known) s.kept

stays : (s next : State) → IsKnowing s → next ≡ s → IsKnowing next
stays s next h e = subst IsKnowing (sym e) h

fewer : (p : Kept → Bool) (s next : State) → IsKnowing s → next ≡ record s { kept = filter p s.kept } → IsKnowing next
fewer p s next h e = subst IsKnowing (sym e) (record { fits = h.fits; each = All-filter p (IsKnownTrace s.known) s.kept h.each })

added : (workers : ℕ) (events : List Event) (s next : State) (parts : List Part) → IsKnowing s → Adds workers events s parts next → IsKnowing next
added workers events s next parts h a =
    let valid : List Trace = a.valid in
    let known : Known = with_traces s.known valid in
    subst IsKnowing (sym a.after) (record {
      fits = all_fit s.known valid h.fits (λ count. a.fits (Names count)) (λ count. a.fits (Tasks count));
      each = all_taken (IsKnownTrace known) s.kept (graced s valid) (All-weaker (IsKnownTrace s.known) (IsKnownTrace known) (trace_still_known s.known valid) s.kept h.each) (graced_known s.known valid (1000 * s.grace));
    })

commanded : (command : Command) (s next : State) (parts : List Part) → IsKnowing s → Commands command s parts next → IsKnowing next
commanded commands.Add s next parts h does = absurd does
commanded (commands.Drop day) s next parts h does = fewer (λ k. not (is_of_day day k)) s next h does.0
commanded (commands.Keep days) s next parts h does = fewer (λ k. nat_lt (greater_days s.kept (day_of k)) days) s next h does.0
commanded (commands.Watch every) s next parts h does = subst IsKnowing (sym does.0) (record { fits = h.fits; each = h.each })
commanded (commands.Grace micros) s next parts h does = subst IsKnowing (sym does.0) (record { fits = h.fits; each = h.each })
commanded commands.Model s next parts h does = stays s next h does.0
commanded commands.Paths s next parts h does = stays s next h does.0
commanded commands.Slack s next parts h does = stays s next h does.0
commanded commands.Report s next parts h does = stays s next h does.0
commanded commands.Graph s next parts h does = stays s next h does.0
commanded commands.Summarize s next parts h does = stays s next h does.0

done : (workers : ℕ) (job : Job) (s next : State) (parts : List Part) → IsKnowing s → Does workers job s parts next → IsKnowing next
done workers (jobs.Add events) s next parts h does = added workers events s next parts h does
done workers (jobs.Control command) s next parts h does = commanded command s next parts h does
done workers jobs.Summary s next parts h does = stays s next h does.0
done workers (jobs.WhatIf change) s next parts h does = stays s next h does.0
done workers jobs.Tail s next parts h does = stays s next h does.0
done workers jobs.Why s next parts h does = stays s next h does.0
done workers (jobs.Verify claims) s next parts h does = stays s next h does.0
done workers (jobs.Evidence choice) s next parts h does = stays s next h does.0

led_knowing : (workers : ℕ) (all : List Job) (s last : State) (parts : List Part) → IsKnowing s → Leads workers all s parts last → IsKnowing last
led_knowing workers [] s last parts h led = stays s last h led.1
led_knowing workers (job ∷ all) s last parts h led = led_knowing workers all led.1 last led.2 (done workers job s led.1 led.0 h led.3) led.4

-- ---- the last state

pub last_knows : (input : List ℕ) (ls : List Line) (last : State) → IsLastState input ls last → IsKnowing last
last_knows input ls last h = led_knowing h.workers _ (first_state empty_digest) last h.parts (record { fits = (omega arith, omega arith); each = All-nil (IsKnownTrace (record { names = []; tasks = [] })) }) h.led
