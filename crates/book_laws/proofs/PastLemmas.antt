-- The kept traces of a session are those that remain of all that its jobs took.
use Rattle.std.proofs.Common.{◌≡◌, ℕ, suc, ◌≤◌, inl, inr, Bool, true, false, not, ◌||◌, nat_lt, nat_le, List, [], ◌∷◌, ◌++◌, length, map, filter, All, AllPairs, refl, sym, ap, ◌∙◌, subst, append_assoc, arith}
use Rattle.std.proofs.lemmas.Bool.{cases_Bool, cases_lt, le-leb, lt-leb, lt-ltb, le-ltb, not_from_true, not_from_false}
use Rattle.std.proofs.lemmas.List.{append-nil}
use Rattle.std.proofs.lemmas.List.Elements.{All-nil, All-cons, All-filter, filter-append}
use Rattle.std.proofs.lemmas.List.Kept.{AllPairs-cons}
use Rattle.event_lines.specs.declared.command.Command.{Command}
use Rattle.event_lines.specs.declared.command.Command.TheVariants as commands
use Rattle.session_rules.specs.declared.job.Job.{Job}
use Rattle.session_rules.specs.declared.job.Job.TheVariants.{Add, Control, Summary, WhatIf, Tail, Why, Verify, Evidence}
use Rattle.session_rules.specs.KeptTraces.{Kept, day_of, greater_days, is_of_day, traces_on, with_taken}
use Rattle.session_rules.specs.Parts.{Part}
use Rattle.session_rules.specs.Sessions.{State, Commands, Does, Leads, first_state, graced}
use Rattle.day_partitions.proofs.FilterLemmas.{filter_yes, filter_no, filter_all, filter_same}
use Rattle.book_laws.specs.PastJobs.{PastJob, Takes, job_drops, is_dropped_by, remaining_of, AreRemaining, ArePast, KeptRemain, OneListRemains}
use Rattle.book_laws.proofs.LawLemmas.{with_is}
use Rattle.book_laws.proofs.TakenLemmas.{Rises, filter_put_all, one_rising, put_all, put_all_rises}

module _ {X : Type 0} where
  -- what every item meets
  each_item : (P : X → Type 0) → ((x : X) → P x) → (xs : List X) → All P xs
  each_item P h [] = All-nil P
  each_item P h (x ∷ xs) = All-cons P x xs (h x) (each_item P h xs)

  -- two filters, one after the other, change places
  filter_twice : (p q : X → Bool) (xs : List X) → filter p (filter q xs) ≡ filter q (filter p xs)
  filter_twice p q [] = refl
  filter_twice p q (x ∷ xs) =
      let rest = filter_twice p q xs in
      elim (cases_Bool (p x)) [
        | inl a ↦ elim (cases_Bool (q x)) [
          | inl b ↦ ap (filter p) (filter_yes q x xs b) ∙ filter_yes p x (filter q xs) a ∙ ap (λ l. x ∷ l) rest ∙ sym (ap (filter q) (filter_yes p x xs a) ∙ filter_yes q x (filter p xs) b)
          | inr b ↦ ap (filter p) (filter_no q x xs b) ∙ rest ∙ sym (ap (filter q) (filter_yes p x xs a) ∙ filter_no q x (filter p xs) b)
        ]
        | inr a ↦ elim (cases_Bool (q x)) [
          | inl b ↦ ap (filter p) (filter_yes q x xs b) ∙ filter_no p x (filter q xs) a ∙ rest ∙ sym (ap (filter q) (filter_no p x xs a))
          | inr b ↦ ap (filter p) (filter_no q x xs b) ∙ rest ∙ sym (ap (filter q) (filter_no p x xs a))
        ]
      ]

  -- what is dropped by neither is what the second leaves of what the first leaves
  filter_either : (p q r : X → Bool) → ((x : X) → r x ≡ not (p x || q x)) → (xs : List X) → filter r xs ≡ filter (λ x. not (q x)) (filter (λ x. not (p x)) xs)
  filter_either p q r same [] = refl
  filter_either p q r same (x ∷ xs) =
      let rest = filter_either p q r same xs in
      let np : X → Bool = λ y. not (p y) in
      let nq : X → Bool = λ y. not (q y) in
      elim (cases_Bool (p x)) [
        | inl a ↦ filter_no r x xs (same x ∙ ap (λ b. not (b || q x)) a) ∙ rest ∙ sym (ap (filter nq) (filter_no np x xs (not_from_true (p x) a)))
        | inr a ↦ elim (cases_Bool (q x)) [
          | inl b ↦ filter_no r x xs (same x ∙ ap (λ c. not (c || q x)) a ∙ ap not b) ∙ rest ∙ sym (ap (filter nq) (filter_yes np x xs (not_from_false (p x) a)) ∙ filter_no nq x (filter np xs) (not_from_true (q x) b))
          | inr b ↦ filter_yes r x xs (same x ∙ ap (λ c. not (c || q x)) a ∙ ap not b) ∙ ap (λ l. x ∷ l) rest ∙ sym (ap (filter nq) (filter_yes np x xs (not_from_false (p x) a)) ∙ filter_yes nq x (filter np xs) (not_from_false (q x) b))
        ]
      ]

module _ {X : Type 0} (key : X → ℕ) where
  filter_rises : (p : X → Bool) (xs : List X) → Rises key xs → Rises key (filter p xs)
  filter_rises p [] h = h
  filter_rises p (x ∷ xs) h =
      let rest = filter_rises p xs h.1 in
      elim (cases_Bool (p x)) [
        | inl a ↦ rw (filter_yes p x xs a) (All-filter p (λ y. key x ≤ key y) xs h.0, rest)
        | inr a ↦ rw (filter_no p x xs a) rest
      ]

  abbrev NoLater : X → X → Type 0
  NoLater x y = key x ≤ key y

  pairs_rise : (xs : List X) → AllPairs NoLater xs → Rises key xs
  pairs_rise [] h = tt
  pairs_rise (x ∷ xs) h = (λ i d l. h 0 (suc i) d (omega arith) (omega arith), pairs_rise xs (λ i j d l m. h (suc i) (suc j) d (omega arith) (omega arith)))

  rise_pairs : (xs : List X) → Rises key xs → AllPairs NoLater xs
  rise_pairs [] h = λ i j d l m. absurd (omega arith)
  rise_pairs (x ∷ xs) h = AllPairs-cons NoLater x xs h.0 (rise_pairs xs h.1)

-- ---- one job more
-- the traces that the job leaves of others
abbrev stays : PastJob → Kept → Bool
stays p k = not (job_drops p.job p.before.kept (day_of k))

dropped_next : (past : List PastJob) (p : PastJob) (day : ℕ) → is_dropped_by (past ++ p ∷ []) day ≡ (is_dropped_by past day || job_drops p.job p.before.kept day)
dropped_next [] p day = elim (cases_Bool (job_drops p.job p.before.kept day)) [
  | inl a ↦ ap (λ b. b || false) a ∙ sym a
  | inr a ↦ ap (λ b. b || false) a ∙ sym a
]
dropped_next (q ∷ past) p day =
    let rest = dropped_next past p day in
    elim (cases_Bool (job_drops q.job q.before.kept day)) [
      | inl a ↦ ap (λ b. b || is_dropped_by (past ++ p ∷ []) day) a ∙ sym (ap (λ b. (b || is_dropped_by past day) || job_drops p.job p.before.kept day) a)
      | inr a ↦ ap (λ b. b || is_dropped_by (past ++ p ∷ []) day) a ∙ rest ∙ sym (ap (λ b. (b || is_dropped_by past day) || job_drops p.job p.before.kept day) a)
    ]

remaining_next : (past : List PastJob) (p : PastJob) → remaining_of (past ++ p ∷ []) ≡ filter (stays p) (remaining_of past) ++ p.took
remaining_next [] p = append-nil (filter (λ k. not (is_dropped_by [] (day_of k))) p.took) ∙ filter_all (λ k. not (is_dropped_by [] (day_of k))) p.took (each_item (λ k. not (is_dropped_by [] (day_of k)) ≡ true) (λ k. refl) p.took)
remaining_next (q ∷ past) p =
    let later : Kept → Bool = λ k. not (is_dropped_by past (day_of k)) in
    let all : Kept → Bool = λ k. not (is_dropped_by (past ++ p ∷ []) (day_of k)) in
    let own : filter all q.took ≡ filter (stays p) (filter later q.took) = filter_either (λ k. is_dropped_by past (day_of k)) (λ k. job_drops p.job p.before.kept (day_of k)) all (λ k. ap not (dropped_next past p (day_of k))) q.took in
    ap (λ l. l ++ remaining_of (past ++ p ∷ [])) own ∙ ap (λ l. filter (stays p) (filter later q.took) ++ l) (remaining_next past p)
    ∙ sym (append_assoc (filter (stays p) (filter later q.took)) (filter (stays p) (remaining_of past)) p.took)
    ∙ ap (λ l. l ++ p.took) (sym (filter-append (stays p) (filter later q.took) (remaining_of past)))

-- a job that takes nothing leaves a filter of the kept traces
leaves : (past : List PastJob) (kept next : List Kept) (p : PastJob) → AreRemaining past kept → p.took ≡ [] → next ≡ filter (stays p) kept → AreRemaining (past ++ p ∷ []) next
leaves past kept next p h none is =
    let all : remaining_of (past ++ p ∷ []) ≡ filter (stays p) (remaining_of past) = remaining_next past p ∙ ap (λ l. filter (stays p) (remaining_of past) ++ l) none ∙ append-nil (filter (stays p) (remaining_of past)) in
    record {
      rising = subst (λ l. AllPairs (NoLater day_of) l) (sym is) (rise_pairs day_of (filter (stays p) kept) (filter_rises day_of (stays p) kept (pairs_rise day_of kept h.rising)));
      each = λ day. ap (traces_on day) is ∙ filter_twice (is_of_day day) (stays p) kept ∙ ap (filter (stays p)) (h.each day)
          ∙ filter_twice (stays p) (is_of_day day) (remaining_of past) ∙ sym (ap (traces_on day) all);
    }

-- a job that drops nothing leaves all, and takes its traces in
takes_in : (past : List PastJob) (kept next : List Kept) (p : PastJob) → AreRemaining past kept → ((k : Kept) → stays p k ≡ true) → next ≡ with_taken kept p.took → AreRemaining (past ++ p ∷ []) next
takes_in past kept next p h stay is =
    let all : remaining_of (past ++ p ∷ []) ≡ remaining_of past ++ p.took = remaining_next past p ∙ ap (λ l. l ++ p.took) (filter_all (stays p) (remaining_of past) (each_item (λ k. stays p k ≡ true) stay (remaining_of past))) in
    let put : next ≡ put_all day_of kept p.took = is ∙ with_is kept p.took in
    let rises : Rises day_of kept = pairs_rise day_of kept h.rising in
    record {
      rising = subst (λ l. AllPairs (NoLater day_of) l) (sym put) (rise_pairs day_of (put_all day_of kept p.took) (put_all_rises day_of kept p.took rises));
      each = λ day. ap (traces_on day) put ∙ filter_put_all day_of day kept p.took rises ∙ ap (λ l. l ++ traces_on day p.took) (h.each day)
          ∙ sym (ap (traces_on day) all ∙ filter-append (is_of_day day) (remaining_of past) p.took);
    }

-- a job that takes and drops nothing leaves the kept traces
same_traces : (past : List PastJob) (kept next : List Kept) (p : PastJob) → AreRemaining past kept → p.took ≡ [] → ((k : Kept) → stays p k ≡ true) → next ≡ kept → AreRemaining (past ++ p ∷ []) next
same_traces past kept next p h none stay is = leaves past kept next p h none (is ∙ sym (filter_all (stays p) kept (each_item (λ k. stays p k ≡ true) stay kept)))

-- a day with fewer greater ones than are kept stays
is_new : (n d : ℕ) → nat_lt d n ≡ not (nat_le n d)
is_new n d = elim (cases_lt d n) [
  | inl l ↦ lt-ltb d n l ∙ sym (not_from_false (nat_le n d) (lt-leb n d l))
  | inr l ↦ le-ltb d n l ∙ sym (not_from_true (nat_le n d) (le-leb n d l))
]

-- ---- each job
abbrev past_job : Job → State → List Kept → PastJob
past_job job s took = record { job = job; before = s; took = took }

abbrev Step : List PastJob → Job → State → State → Type 0
Step past job s next = (took : List Kept) × Takes job s took × AreRemaining (past ++ past_job job s took ∷ []) next.kept

plain : (past : List PastJob) (job : Job) (s next : State) → AreRemaining past s.kept → Takes job s [] → ((k : Kept) → stays (past_job job s []) k ≡ true) → next.kept ≡ s.kept → Step past job s next
plain past job s next h takes stay is = ([], takes, same_traces past s.kept next.kept (past_job job s []) h refl stay is)

abbrev kept_in : State → List Kept
kept_in s = s.kept

commanded : (past : List PastJob) (command : Command) (s : State) (parts : List Part) (next : State) → AreRemaining past s.kept → Commands command s parts next → Step past (Control command) s next
commanded past commands.Add s parts next h does = absurd does
commanded past (commands.Drop day) s parts next h does = ([], refl, leaves past s.kept next.kept (past_job (Control (commands.Drop day)) s []) h refl (ap kept_in does.0))
commanded past (commands.Keep days) s parts next h does =
    let p : PastJob = past_job (Control (commands.Keep days)) s [] in (
      [],
      refl,
      leaves past s.kept next.kept p h refl (ap kept_in does.0
          ∙ filter_same (λ k. nat_lt (greater_days s.kept (day_of k)) days) (stays p) s.kept (each_item (λ k. nat_lt (greater_days s.kept (day_of k)) days ≡ stays p k) (λ k. is_new days (greater_days s.kept (day_of k))) s.kept)),
    )
commanded past (commands.Watch every) s parts next h does = plain past (Control (commands.Watch every)) s next h refl (λ k. refl) (ap kept_in does.0)
commanded past (commands.Grace micros) s parts next h does = plain past (Control (commands.Grace micros)) s next h refl (λ k. refl) (ap kept_in does.0)
commanded past commands.Model s parts next h does = plain past (Control commands.Model) s next h refl (λ k. refl) (ap kept_in does.0)
commanded past commands.Paths s parts next h does = plain past (Control commands.Paths) s next h refl (λ k. refl) (ap kept_in does.0)
commanded past commands.Slack s parts next h does = plain past (Control commands.Slack) s next h refl (λ k. refl) (ap kept_in does.0)
commanded past commands.Report s parts next h does = plain past (Control commands.Report) s next h refl (λ k. refl) (ap kept_in does.0)
commanded past commands.Graph s parts next h does = plain past (Control commands.Graph) s next h refl (λ k. refl) (ap kept_in does.0)
commanded past commands.Summarize s parts next h does = plain past (Control commands.Summarize) s next h refl (λ k. refl) (ap kept_in does.0)

done : (workers : ℕ) (past : List PastJob) (job : Job) (s : State) (parts : List Part) (next : State) → AreRemaining past s.kept → Does workers job s parts next → Step past job s next
done workers past (Add events) s parts next h does =
    let took = graced s does.valid in
    (took, (does.valid, does.refused, does.judged, refl), takes_in past s.kept next.kept (past_job (Add events) s took) h (λ k. refl) (ap kept_in does.after))
done workers past (Control command) s parts next h does = commanded past command s parts next h does
done workers past Summary s parts next h does = plain past Summary s next h refl (λ k. refl) (ap kept_in does.0)
done workers past (WhatIf change) s parts next h does = plain past (WhatIf change) s next h refl (λ k. refl) (ap kept_in does.0)
done workers past Tail s parts next h does = plain past Tail s next h refl (λ k. refl) (ap kept_in does.0)
done workers past Why s parts next h does = plain past Why s next h refl (λ k. refl) (ap kept_in does.0)
done workers past (Verify claims) s parts next h does = plain past (Verify claims) s next h refl (λ k. refl) (ap kept_in does.0)
done workers past (Evidence choice) s parts next h does = plain past (Evidence choice) s next h refl (λ k. refl) (ap kept_in does.0)

-- ---- jobs one after another
-- the jobs of a session that goes on from this state, after earlier ones
record GoesOn (workers : ℕ) (earlier : List PastJob) (jobs : List Job) (s last : State) : Type 0 where
  past : List PastJob
  jobs_are : map (λ (p : PastJob). p.job) past ≡ jobs
  led : ArePast workers past s last
  after : AreRemaining (earlier ++ past) last.kept
  before : (first later : List PastJob) (p : PastJob) → past ≡ first ++ (p ∷ later) → AreRemaining (earlier ++ first) p.before.kept

abbrev first_past : PastJob → List PastJob → PastJob
first_past d [] = d
first_past d (p ∷ past) = p

abbrev rest_past : List PastJob → List PastJob
rest_past [] = []
rest_past (p ∷ past) = past

before_of : (earlier past : List PastJob) (p : PastJob) → AreRemaining earlier p.before.kept
    → ((first later : List PastJob) (q : PastJob) → past ≡ first ++ (q ∷ later) → AreRemaining ((earlier ++ p ∷ []) ++ first) q.before.kept)
    → (front later : List PastJob) (q : PastJob) → p ∷ past ≡ front ++ (q ∷ later) → AreRemaining (earlier ++ front) q.before.kept
before_of earlier past p h on [] later q e = subst (λ l. AreRemaining l q.before.kept) (sym (append-nil earlier)) (subst (λ (r : PastJob). AreRemaining earlier r.before.kept) (ap (first_past p) e) h)
before_of earlier past p h on (f ∷ front) later q e =
    subst (λ l. AreRemaining l q.before.kept) (append_assoc earlier (p ∷ []) front ∙ ap (λ r. earlier ++ (r ∷ front)) (ap (first_past p) e)) (on front later q (ap rest_past e))

none_before : (earlier front later : List PastJob) (q : PastJob) → [] ≡ front ++ (q ∷ later) → AreRemaining (earlier ++ front) q.before.kept
none_before earlier [] later q e = let l = ap length e in absurd (omega (arith, l))
none_before earlier (f ∷ front) later q e = let l = ap length e in absurd (omega (arith, l))

go_on : (workers : ℕ) (earlier : List PastJob) (jobs : List Job) (s : State) (parts : List Part) (last : State) → AreRemaining earlier s.kept → Leads workers jobs s parts last → GoesOn workers earlier jobs s last
go_on workers earlier [] s parts last h leads = record {
  past = [];
  jobs_are = refl;
  led = leads.1;
  after = subst (λ l. AreRemaining l last.kept) (sym (append-nil earlier)) (subst (λ (t : State). AreRemaining earlier t.kept) (sym leads.1) h);
  before = none_before earlier;
}
go_on workers earlier (job ∷ jobs) s parts last h leads =
    let step = done workers earlier job s leads.0 leads.1 h leads.3 in
    let p : PastJob = past_job job s step.0 in
    let on = go_on workers (earlier ++ p ∷ []) jobs leads.1 leads.2 last step.2 leads.4 in
    record {
      past = p ∷ on.past;
      jobs_are = ap (λ l. job ∷ l) on.jobs_are;
      led = (refl, step.1, (leads.0, leads.1, leads.3, on.led));
      after = subst (λ l. AreRemaining l last.kept) (append_assoc earlier (p ∷ []) on.past) on.after;
      before = before_of earlier on.past p h on.before;
    }

pub kept_remain : KeptRemain
kept_remain workers given jobs parts last leads =
    let none : AreRemaining [] [] = record { rising = λ i j d l m. absurd (omega arith); each = λ day. refl } in
    let on = go_on workers [] jobs (first_state given) parts last none leads in
    (on.past, on.jobs_are, on.led, on.after, on.before)

pub one_remains : OneListRemains
one_remains past kept other h g = one_rising day_of kept other (pairs_rise day_of kept h.rising) (pairs_rise day_of other g.rising) (λ day. h.each day ∙ sym (g.each day))
