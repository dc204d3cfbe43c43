-- How a drill ends.
use Rattle.std.proofs.Common.{◌≡◌, ◌≤◌, ℕ, List, [], ◌∷◌, ◌++◌, Option, Some, Ok, drop, length, map, take, refl, sym, ap, subst, ◌∙◌, inl, inr, arith, append_assoc, append-nil}
use Rattle.std.specs.Prelude.{All, ◌⊎◌}
use Rattle.std.specs.Option.{option_map_or}
use Rattle.std.specs.List.{AllZip}
use Rattle.digest_facts.specs.Digests.{Digest, empty_digest}
use Rattle.digest_merging.specs.Limits.{limit_passed}
use Rattle.digest_merging.specs.Merges.{IsGivenBy, IsTableOf, merged_of}
use Rattle.digest_merging.specs.declared.digest_limit.DigestLimit.{DigestLimit}
use Rattle.drill_input.specs.DrillInput.{drill_input}
use Rattle.event_lines.specs.InputLines.{lines_said}
use Rattle.event_lines.specs.declared.command.Command.TheVariants as commands
use Rattle.event_lines.specs.declared.line.Line.TheVariants as lines
use Rattle.session_rules.specs.JobTexts.{IsTextToLimit}
use Rattle.mystery_io.specs.Input.{input_read}
use Rattle.mystery_io.specs.ReadFaults.{FilesSeen}
use Rattle.mystery_run.specs.CommandLines.{Call, call_of, drill, files_of, files_of_action, preface_of, preface_of_call}
use Rattle.mystery_run.specs.Endings.{CallEnds, Ends, CallEndsAt, Writes}
use Rattle.mystery_run.specs.Readings.{FailsAt, PassesAt}
use Rattle.mystery_run.specs.Runs.{Explains, Reads, Seen}
use Rattle.mystery_run.specs.Texts.{IsGivenOver, IsTextUpTo}
use Rattle.mystery_run.specs.Works.{Work, Jobs, work_from, work_said}
use Rattle.mystery_run.specs.declared.outcome.Outcome.{Outcome}
use Rattle.mystery_run.specs.declared.outcome.Outcome.TheVariants.{Done, Memory, Arguments, BadLine, File, Write, Size, Over, OverGiven}
use Rattle.session_rules.specs.Jobs as rules
use Rattle.session_rules.specs.Sessions.{Leads, Passes, State, first_state}
use Rattle.session_rules.specs.Parts.{Part}
use Rattle.session_rules.specs.declared.job.Job.{Job}
use Rattle.session_rules.specs.declared.job.Job.TheVariants.{Add, Summary}
use Rattle.session_rules.specs.declared.limit.Limit.{Limit}
use Rattle.trace_types.specs.Segments.{SegmentName}
use Rattle.trace_types.specs.declared.event.Event.{Event}
use Rattle.drill_laws.proofs.InputLemmas.{IsDrillEvent}
use Rattle.drill_laws.proofs.LimitLemmas.{add_passes}

-- events and then an add are one job
one_add : (batch events : List Event) → rules.jobs_from batch (map lines.Event events ++ lines.Control 0 commands.Add ∷ []) ≡ Add (batch ++ events) ∷ []
one_add batch [] = ap (λ xs. Add xs ∷ []) (sym (append-nil batch))
one_add batch (e ∷ events) = one_add (batch ++ e ∷ []) events ∙ ap (λ xs. Add xs ∷ []) (append_assoc batch (e ∷ []) events)

none_left : (done : List Job) (job : Job) (rest : List Job) → [] ≡ done ++ (job ∷ rest) → ⊥
none_left [] job rest e = cc e
none_left (x ∷ xs) job rest e = cc e

-- the two jobs of a drill
abbrev jobs_over : List Event → List Job
jobs_over events = Add events ∷ Summary ∷ []

-- a run whose preface has files with these names, and that ends so over what it read
abbrev EndsFrom : List (List ℕ) → Outcome → Seen → Type 0
EndsFrom names outcome seen =
    (text : List ℕ) × Ends seen.words (input_read (take (length names) seen.files.readings)) (input_read (drop (length names) seen.files.readings)) outcome text
    × Writes outcome seen.written_before seen.written_now text

-- where such a run ends at a file, that one failed or passed the limit
abbrev ReadsFrom : List (List ℕ) → List (List ℕ) → Outcome → Seen → Type 0
ReadsFrom names files (File index) seen = FailsAt seen.files names files index
ReadsFrom names files Done seen = Unit {0}
ReadsFrom names files Memory seen = Unit {0}
ReadsFrom names files Arguments seen = Unit {0}
ReadsFrom names files (BadLine line why) seen = Unit {0}
ReadsFrom names files Write seen = Unit {0}
ReadsFrom names files Size seen = (index : ℕ) × PassesAt seen.files names files index
ReadsFrom names files (Over limit) seen = Unit {0}
ReadsFrom names files (OverGiven limit) seen = Unit {0}

reads_from : (outcome : Outcome) (seen : Seen) → Reads outcome seen → ReadsFrom (preface_of seen.words) (files_of seen.words) outcome seen
reads_from (File index) seen h = h.1
reads_from Done seen h = tt
reads_from Memory seen h = tt
reads_from Arguments seen h = tt
reads_from (BadLine line why) seen h = tt
reads_from Write seen h = tt
reads_from Size seen h = h.1
reads_from (Over limit) seen h = tt
reads_from (OverGiven limit) seen h = tt

-- where there is no file, none fails, and none passes the limit
no_file : (files : FilesSeen) (index : ℕ) → FailsAt files [] [] index → ⊥
no_file files index h = elim h [ inl at ↦ omega (arith, at.opened.within) | inr at ↦ omega (arith, at.3.opened.within) ]

no_size : (files : FilesSeen) (index : ℕ) → PassesAt files [] [] index → ⊥
no_size files index h = elim h [ inl at ↦ omega (arith, at.opened.within) | inr at ↦ omega (arith, at.3.opened.within) ]

-- neither a bad line nor a limit nor a file ends it
abbrev EndsWell : Outcome → Type 0
EndsWell outcome = (outcome ≡ Done) ⊎ (outcome ≡ Memory) ⊎ (outcome ≡ Write)

-- what no table gives is the empty digest, which passes no limit
none_given : (given : Digest SegmentName (List ℕ)) → IsGivenBy [] given → given ≡ empty_digest
none_given given is = is.merge ∙ by is.digests is.tables
  where
    by : (digests : List (Digest SegmentName (List ℕ))) → AllZip IsTableOf digests [] → merged_of digests ≡ empty_digest
    by [] tables = refl
    by (s ∷ digests) tables = absurd tables

none_over : (given : Digest SegmentName (List ℕ)) (limit : DigestLimit) → IsGivenBy [] given → limit_passed given ≡ Some limit → ⊥
none_over given limit is over = let e : limit_passed {N = SegmentName} {T = List ℕ} empty_digest ≡ Some limit = subst (λ (d : Digest SegmentName (List ℕ)). limit_passed d ≡ Some limit) (none_given given is) over in cc e

module _ (number traces : ℕ) (events : List Event) (good : All IsDrillEvent events) (said : lines_said (drill_input number traces) ≡ Ok (map lines.Event events)) (few : length events ≤ 220000) (workers : ℕ) where
  -- the call of a drill: nothing is given to it
  abbrev pub call : Call
  call = record { workers = workers; given = []; action = drill number traces }

  abbrev work : Work
  work = Jobs [] (jobs_over events)

  work_is : (input : List ℕ) → work_said call [] input ≡ Ok work
  work_is input = ap (work_from [] (Some Summary)) said ∙ ap (λ jobs. Ok (Jobs [] (jobs ++ Summary ∷ []))) (one_add [] events)

  -- no job passes a limit
  no_job : (limit : Limit) (done : List Job) (job : Job) (rest : List Job) (parts : List Part) (last : State) → jobs_over events ≡ done ++ (job ∷ rest) → Leads workers done (first_state empty_digest) parts last → Passes job last limit → ⊥
  no_job limit [] job rest parts last split led passes =
      let same : Add events ≡ job = cc in
      let over : Passes (Add events) (first_state empty_digest) limit = subst (λ (s : State). Passes (Add events) s limit) led.1 (subst (λ (j : Job). Passes j last limit) (sym same) passes) in
      add_passes events over.0 over.1 good few over.2 limit over.3
  no_job limit (first ∷ []) job rest parts last split led passes =
      let same : Summary ≡ job = cc in
      subst (λ (j : Job). Passes j last limit) (sym same) passes
  no_job limit (first ∷ second ∷ done) job rest parts last split led passes =
      let left : [] ≡ done ++ (job ∷ rest) = cc in
      none_left done job rest left

  no_limit : (limit : Limit) (text : List ℕ) → IsTextToLimit workers empty_digest (jobs_over events) limit text → ⊥
  no_limit limit text h = no_job limit h.done h.job h.rest h.told.parts h.last h.split h.told.led h.passes

  -- nor does what is given
  not_over : (limit : Limit) (text : List ℕ) → IsTextUpTo workers work limit text → ⊥
  not_over limit text h = no_limit limit text (subst (λ (d : Digest SegmentName (List ℕ)). IsTextToLimit workers d (jobs_over events) limit text) (none_given h.given h.is) h.holds)

  same_work : (input : List ℕ) (other : Work) → work_said call [] input ≡ Ok other → work ≡ other
  same_work input other e = let same : Ok work ≡ Ok other = sym (work_is input) ∙ e in cc same

  ends_well : (outcome : Outcome) (seen : Seen) (input text : List ℕ) → ReadsFrom [] [] outcome seen → CallEnds call [] input outcome text → EndsWell outcome
  ends_well Done seen input text reads h = inl refl
  ends_well Memory seen input text reads h = inr (inl refl)
  ends_well Arguments seen input text reads h = absurd h
  ends_well (File index) seen input text reads h = absurd (no_file seen.files index reads)
  ends_well Write seen input text reads h = inr (inr refl)
  ends_well (BadLine line why) seen input text reads h = let e = sym (work_is input) ∙ h.1 in absurd (cc e)
  ends_well Size seen input text reads h = absurd (no_size seen.files reads.0 reads.1)
  ends_well (Over limit) seen input text reads h = absurd (not_over limit text (subst (λ (w : Work). IsTextUpTo workers w limit text) (sym (same_work input h.1.0 h.1.1)) h.1.2))
  ends_well (OverGiven limit) seen input text reads h =
      let over : IsGivenOver work limit = subst (λ (w : Work). IsGivenOver w limit) (sym (same_work input h.0.1.0 h.0.1.1)) h.0.1.2 in
      absurd (none_over over.0 limit over.1 over.2)

  -- the same by what a run saw
  pub seen_well : (outcome : Outcome) (seen : Seen) → call_of seen.words ≡ Some call → Explains outcome seen → EndsWell outcome
  seen_well outcome seen called h =
      let no_preface : preface_of seen.words ≡ [] = ap (λ (o : Option Call). option_map_or preface_of_call o []) called in
      let no_files : files_of seen.words ≡ [] = ap (λ (o : Option Call). option_map_or (λ (c : Call). files_of_action c.action) o []) called in
      let ends : EndsFrom [] outcome seen = subst (λ names. EndsFrom names outcome seen) no_preface h.ends in
      let reads : ReadsFrom [] [] outcome seen = subst (λ files. ReadsFrom [] files outcome seen) no_files (subst (λ names. ReadsFrom names (files_of seen.words) outcome seen) no_preface (reads_from outcome seen h.reads)) in
      let input : List ℕ = input_read (drop 0 seen.files.readings) in
      ends_well outcome seen input ends.0 reads (subst (λ (o : Option Call). CallEndsAt o [] input outcome ends.0) called ends.1)
