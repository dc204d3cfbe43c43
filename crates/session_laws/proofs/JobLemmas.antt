-- A job does one thing, or it passes one limit.
use Rattle.std.proofs.Common.{◌≡◌, ◌↔◌, ℕ, ◌+◌, ◌≤◌, Bool, true, false, List, [], ◌∷◌, take, Contains, map, Result, Ok, Err, Ordering, refl, sym, ◌∙◌, ap, subst, arith, inl, inr, AllPairs, nat_cmp}
use Rattle.std.specs.List.{AllZip}
use Rattle.std.specs.Cmp.{IsTotalOrder}
use Rattle.std.specs.Cmp.Lexicographic.{slice_cmp}
use Rattle.std.specs.declared.cmp.Ordering.TheVariants.{Less}
use Rattle.std.proofs.lemmas.Bool.{cases_lt}
use Rattle.std.proofs.lemmas.Cmp.{nat_cmp_total}
use Rattle.certificates.specs.declared.claim.Claim.{Claim}
use Rattle.certificates.specs.declared.matter.Matter.TheVariants as matters
use Rattle.event_lines.specs.declared.command.Command.TheVariants as commands
use Rattle.segment_cut.specs.Cutting.{IsCut}
use Rattle.segment_cut.specs.Faults.{IsTraceFault}
use Rattle.segment_cut.specs.declared.trace_fault.TraceFault.{TraceFault}
use Rattle.segment_names.specs.Known.{Known, with_traces}
use Rattle.segment_names.specs.Limits.{Fits, IsPassed, PassesLimit}
use Rattle.segment_names.specs.declared.name_fault.NameLimit.{NameLimit}
use Rattle.segment_names.specs.declared.name_fault.NameLimit.TheVariants as limits
use Rattle.session_rules.specs.Batches.{AreJudged, IsJudged, refused_of, valid_of}
use Rattle.session_rules.specs.KeptTraces.{Kept, by_kept, day_of}
use Rattle.session_rules.specs.Parts.{Part, Refusals, KeptNewest}
use Rattle.session_rules.specs.Refutations.{AreRefutations, IsVerdict, RefutesMatter, Refutations}
use Rattle.session_rules.specs.ReportTexts.{AreKeptNames}
use Rattle.session_rules.specs.Sessions.{Adds, Does, Passes, PassesLimitOf, State, graced, report_parts, state_after, tail_parts, verify_parts, watch_parts, why_parts}
use Rattle.session_rules.specs.declared.job.Job.{Job}
use Rattle.session_rules.specs.declared.job.Job.TheVariants.{Add, Control, Summary, WhatIf, Tail, Why, Verify, Evidence}
use Rattle.session_rules.specs.declared.limit.Limit.{Limit}
use Rattle.session_rules.specs.declared.limit.Limit.TheVariants.{Names, Tasks, Days, Traces}
use Rattle.session_rules.specs.declared.refused.Refused.{Refused}
use Rattle.trace_types.specs.Batch.{PlainTrace, traces_of}
use Rattle.trace_types.specs.Listing.{ListsExactly}
use Rattle.trace_types.specs.NameOrder.{name_cmp, pair_cmp}
use Rattle.trace_types.specs.Parts.{segments_of}
use Rattle.trace_types.specs.Segments.{SegmentName, name_of}
use Rattle.trace_types.specs.Surviving.{IsRefuted}
use Rattle.trace_types.specs.declared.event.Event.{Event}
use Rattle.trace_types.specs.declared.trace.Trace.{Trace}

-- ---- limits of names and tasks

passed_fits_not : (known : Known) (f : NameLimit) → IsPassed known f → Fits known → ⊥
passed_fits_not known (limits.Names count) p fits = omega (arith, p.0, fits.0)
passed_fits_not known (limits.Tasks count) p fits = omega (arith, p.1, fits.1)

passed_one : (known : Known) (f g : NameLimit) → IsPassed known f → IsPassed known g → f ≡ g
passed_one known (limits.Names a) (limits.Names b) p q = ap limits.Names (p.1 ∙ sym q.1)
passed_one known (limits.Names a) (limits.Tasks b) p q = absurd (omega (arith, p.0, q.0))
passed_one known (limits.Tasks a) (limits.Names b) p q = absurd (omega (arith, p.0, q.0))
passed_one known (limits.Tasks a) (limits.Tasks b) p q = ap limits.Tasks (p.2 ∙ sym q.2)

-- what is known grows past a limit once
one_passed : (at : ℕ → Known) (k m : ℕ) (f g : NameLimit) → ((j : ℕ) → j ≤ k → Fits (at j)) → ((j : ℕ) → j ≤ m → Fits (at j)) → IsPassed (at (k + 1)) f → IsPassed (at (m + 1)) g → f ≡ g
one_passed at k m f g low high p q = elim (cases_lt k m) [
  | inl less ↦ absurd (passed_fits_not (at (k + 1)) f p (high (k + 1) (omega arith)))
  | inr more ↦ elim (cases_lt m k) [
    | inl less ↦ absurd (passed_fits_not (at (m + 1)) g q (low (m + 1) (omega arith)))
    | inr same ↦
        let e : m ≡ k = omega arith in
        passed_one (at (k + 1)) f g p (subst (λ (n : ℕ). IsPassed (at (n + 1)) g) e q)
  ]
]

one_name_limit : (known : Known) (traces : List Trace) (f g : NameLimit) → PassesLimit known traces f → PassesLimit known traces g → f ≡ g
one_name_limit known traces f g p q = one_passed (λ (j : ℕ). with_traces known (take j traces)) p.0 q.0 f g p.2 q.2 p.3 q.3

limits_one : (s : State) (valid : List Trace) (l m : Limit) → PassesLimitOf s valid l → PassesLimitOf s valid m → l ≡ m
limits_one s valid (Names a) (Names b) p q =
    let e : limits.Names a ≡ limits.Names b = one_name_limit s.known valid (limits.Names a) (limits.Names b) p q in
    let same : a ≡ b = cc in
    ap Names same
limits_one s valid (Names a) (Tasks b) p q =
    let e : limits.Names a ≡ limits.Tasks b = one_name_limit s.known valid (limits.Names a) (limits.Tasks b) p q in
    absurd (cc e)
limits_one s valid (Tasks a) (Names b) p q =
    let e : limits.Tasks a ≡ limits.Names b = one_name_limit s.known valid (limits.Tasks a) (limits.Names b) p q in
    absurd (cc e)
limits_one s valid (Tasks a) (Tasks b) p q =
    let e : limits.Tasks a ≡ limits.Tasks b = one_name_limit s.known valid (limits.Tasks a) (limits.Tasks b) p q in
    let same : a ≡ b = cc in
    ap Tasks same
limits_one s valid (Names a) (Days b) p q = absurd (q.0 (limits.Names a) p)
limits_one s valid (Tasks a) (Days b) p q = absurd (q.0 (limits.Tasks a) p)
limits_one s valid (Days a) (Names b) p q = absurd (p.0 (limits.Names b) q)
limits_one s valid (Days a) (Tasks b) p q = absurd (p.0 (limits.Tasks b) q)
limits_one s valid (Days a) (Days b) p q = ap Days (p.2 ∙ sym q.2)
limits_one s valid (Names a) Traces p q = absurd (q.0 (limits.Names a) p)
limits_one s valid (Tasks a) Traces p q = absurd (q.0 (limits.Tasks a) p)
limits_one s valid (Days a) Traces p q = absurd (omega (arith, p.1, q.1))
limits_one s valid Traces (Names b) p q = absurd (p.0 (limits.Names b) q)
limits_one s valid Traces (Tasks b) p q = absurd (p.0 (limits.Tasks b) q)
limits_one s valid Traces (Days b) p q = absurd (omega (arith, p.1, q.1))
limits_one s valid Traces Traces p q = refl

-- ---- what is cited of the crates below

-- a trace has one verdict
pub record OneVerdict : Type 0 where
  pub cut : (request : List ℕ) (events : List Event) (t u : Trace) → IsCut request events t → IsCut request events u → t ≡ u
  pub fault : (events : List Event) (f g : TraceFault) → IsTraceFault events f → IsTraceFault events g → f ≡ g
  pub not_both : (request : List ℕ) (events : List Event) (t : Trace) (f : TraceFault) → IsCut request events t → IsTraceFault events f → ⊥

-- lists in rising order with the same elements are one list
abbrev pub OneRisingList : Type 0 → Type 0
OneRisingList X = (cmp : X → X → Ordering) → IsTotalOrder cmp → (xs ys : List X) → AllPairs (λ (x y : X). cmp x y ≡ Less) xs → AllPairs (λ (x y : X). cmp x y ≡ Less) ys → ((x : X) → Contains xs x ↔ Contains ys x) → xs ≡ ys

pub one_listed : {X : Type 0} → OneRisingList X → (cmp : X → X → Ordering) (P : X → Type 0) (xs ys : List X) → IsTotalOrder cmp → ListsExactly cmp P xs → ListsExactly cmp P ys → xs ≡ ys
one_listed listed cmp P xs ys total h k = listed cmp total xs ys h.rising k.rising (λ x. ((λ c. (k.exactly x).1 ((h.exactly x).0 c)), (λ c. (h.exactly x).1 ((k.exactly x).0 c))))

-- each element stands with one other
pub zip_one : {X Y : Type 0} (R : X → Y → Type 0) → ((x : X) (y z : Y) → R x y → R x z → y ≡ z) → (xs : List X) (ys zs : List Y) → AllZip R xs ys → AllZip R xs zs → ys ≡ zs
zip_one R one [] [] [] h k = refl
zip_one R one [] (y ∷ ys) zs h k = absurd h
zip_one R one [] [] (z ∷ zs) h k = absurd k
zip_one R one (x ∷ xs) [] zs h k = absurd h
zip_one R one (x ∷ xs) (y ∷ ys) [] h k = absurd k
zip_one {X} {Y} R one (x ∷ xs) (y ∷ ys) (z ∷ zs) h k = ap (λ (e : Y). e ∷ ys) (one x y z h.0 k.0) ∙ ap (λ (es : List Y). z ∷ es) (zip_one R one xs ys zs h.1 k.1)

-- what is cited of lists that a job prints
pub record OneListing : Type 0 where
  pub days : OneRisingList ℕ
  pub names : OneRisingList SegmentName
  pub pairs : OneRisingList (SegmentName × SegmentName)
  pub tasks : OneRisingList (List ℕ × List ℕ)
  pub name_order : IsTotalOrder name_cmp
  pub pair_order : IsTotalOrder (pair_cmp name_cmp)
  pub task_order : IsTotalOrder (pair_cmp (slice_cmp nat_cmp))

-- ---- certificates

refutations_one : (told : OneListing) (kept : List Kept) (r q : Refutations) → AreRefutations kept r → AreRefutations kept q → r ≡ q
refutations_one told kept r q h k =
    ap (λ (xs : List (SegmentName × SegmentName)). record { before = xs; exclusive = r.exclusive; pipe = r.pipe }) before
    ∙ ap (λ (xs : List (SegmentName × SegmentName)). record { before = q.before; exclusive = xs; pipe = r.pipe }) exclusive
    ∙ ap (λ (xs : List (List ℕ × List ℕ)). record { before = q.before; exclusive = q.exclusive; pipe = xs }) pipe
  where
    before : r.before ≡ q.before
    before = one_listed told.pairs (pair_cmp name_cmp) (λ (pair : SegmentName × SegmentName). IsRefuted (RefutesMatter (matters.Before pair.0 pair.1)) kept) r.before q.before told.pair_order h.before k.before

    exclusive : r.exclusive ≡ q.exclusive
    exclusive = one_listed told.pairs (pair_cmp name_cmp) (λ (pair : SegmentName × SegmentName). (name_cmp pair.0 pair.1 ≡ Less) × IsRefuted (RefutesMatter (matters.Exclusive pair.0 pair.1)) kept) r.exclusive q.exclusive told.pair_order h.exclusive k.exclusive

    pipe : r.pipe ≡ q.pipe
    pipe = one_listed told.tasks (pair_cmp (slice_cmp nat_cmp)) (λ (pair : List ℕ × List ℕ). IsRefuted (RefutesMatter (matters.Pipe pair.0 pair.1)) kept) r.pipe q.pipe told.task_order h.pipe k.pipe

verdict_one : (kept : List Kept) (claim : Claim) (v w : Bool) → IsVerdict kept claim v → IsVerdict kept claim w → v ≡ w
verdict_one kept claim true true h k = refl
verdict_one kept claim true false h k = sym (k.1 (h.0 refl))
verdict_one kept claim false true h k = h.1 (k.0 refl)
verdict_one kept claim false false h k = refl

verdicts_one : (kept : List Kept) (claims : List Claim) (vs ws : List Bool) → AllZip (IsVerdict kept) claims vs → AllZip (IsVerdict kept) claims ws → vs ≡ ws
verdicts_one kept = zip_one (IsVerdict kept) (verdict_one kept)

-- ---- jobs

module _ (verdict : OneVerdict) where
  one_verdict : (raw : PlainTrace) (v w : Result Trace TraceFault) → IsJudged raw v → IsJudged raw w → v ≡ w
  one_verdict raw (Ok t) (Ok u) h k = ap Ok (verdict.cut raw.request raw.events t u h k)
  one_verdict raw (Err f) (Err g) h k = ap Err (verdict.fault raw.events f g h k)
  one_verdict raw (Ok t) (Err f) h k = absurd (verdict.not_both raw.request raw.events t f h k)
  one_verdict raw (Err f) (Ok t) h k = absurd (verdict.not_both raw.request raw.events t f k h)

  judged_one : (raws : List PlainTrace) (valid others : List Trace) (refused also : List Refused) → AreJudged raws valid refused → AreJudged raws others also → (valid ≡ others) × (refused ≡ also)
  judged_one raws valid others refused also h k =
      let same : h.verdicts ≡ k.verdicts = zip_one IsJudged one_verdict raws h.verdicts k.verdicts h.each k.each in
      (h.valid_are ∙ ap valid_of same ∙ sym k.valid_are, h.refused_are ∙ ap (refused_of raws) same ∙ sym k.refused_are)

  -- a job that is carried out passes no limit
  pub no_limit : (w : ℕ) (job : Job) (s next : State) (parts : List Part) (limit : Limit) → Does w job s parts next → Passes job s limit → ⊥
  no_limit w (Add events) s next parts limit h k =
      let same : h.valid ≡ k.0 = (judged_one (traces_of events) h.valid k.0 h.refused k.1 h.judged k.2).0 in
      h.fits limit (subst (λ (v : List Trace). PassesLimitOf s v limit) (sym same) k.3)
  no_limit w (Control command) s next parts limit h k = absurd k
  no_limit w Summary s next parts limit h k = absurd k
  no_limit w (WhatIf change) s next parts limit h k = absurd k
  no_limit w Tail s next parts limit h k = absurd k
  no_limit w Why s next parts limit h k = absurd k
  no_limit w (Verify claims) s next parts limit h k = absurd k
  no_limit w (Evidence choice) s next parts limit h k = absurd k

  -- a job passes one limit
  pub one_limit : (job : Job) (s : State) (l m : Limit) → Passes job s l → Passes job s m → l ≡ m
  one_limit (Add events) s l m h k =
      let same : h.0 ≡ k.0 = (judged_one (traces_of events) h.0 k.0 h.1 k.1 h.2 k.2).0 in
      limits_one s h.0 l m h.3 (subst (λ (v : List Trace). PassesLimitOf s v m) (sym same) k.3)
  one_limit (Control command) s l m h k = absurd h
  one_limit Summary s l m h k = absurd h
  one_limit (WhatIf change) s l m h k = absurd h
  one_limit Tail s l m h k = absurd h
  one_limit Why s l m h k = absurd h
  one_limit (Verify claims) s l m h k = absurd h
  one_limit (Evidence choice) s l m h k = absurd h

  module _ (told : OneListing) where
    adds_one : (w : ℕ) (events : List Event) (s next other : State) (parts others : List Part) → Adds w events s parts next → Adds w events s others other → (parts ≡ others) × (next ≡ other)
    adds_one w events s next other parts others h k = (
      h.printed ∙ ap (λ (r : List Refused). Refusals r ∷ watch_parts s.watch w (graced s h.valid) h.days) same.1
          ∙ ap (λ (v : List Trace). Refusals k.refused ∷ watch_parts s.watch w (graced s v) h.days) same.0
          ∙ ap (λ (ds : List ℕ). Refusals k.refused ∷ watch_parts s.watch w (graced s k.valid) ds) days ∙ sym k.printed,
      h.after ∙ ap (state_after s) same.0 ∙ sym k.after,
    )
      where
        same : (h.valid ≡ k.valid) × (h.refused ≡ k.refused)
        same = judged_one (traces_of events) h.valid k.valid h.refused k.refused h.judged k.judged

        days : h.days ≡ k.days
        days = one_listed told.days nat_cmp (Contains (map day_of (graced s k.valid))) h.days k.days nat_cmp_total (subst (λ (v : List Trace). ListsExactly nat_cmp (Contains (map day_of (graced s v))) h.days) same.0 h.days_are) k.days_are

    names_one : (kept : List Kept) (xs ys : List SegmentName) → AreKeptNames kept xs → AreKeptNames kept ys → xs ≡ ys
    names_one kept xs ys h k = one_listed told.names name_cmp (Contains (map name_of (segments_of by_kept kept))) xs ys told.name_order h k

    -- a job that is carried out does one thing
    pub does_one : (w : ℕ) (job : Job) (s next other : State) (parts others : List Part) → Does w job s parts next → Does w job s others other → (parts ≡ others) × (next ≡ other)
    does_one w (Add events) s next other parts others h k = adds_one w events s next other parts others h k
    does_one w (Control commands.Add) s next other parts others h k = absurd h
    does_one w (Control (commands.Drop day)) s next other parts others h k = (h.1 ∙ sym k.1, h.0 ∙ sym k.0)
    does_one w (Control (commands.Keep days)) s next other parts others h k =
        let count : h.1.0 ≡ k.1.0 = omega (arith, h.1.1, k.1.1) in
        (h.1.2 ∙ ap (λ (n : ℕ). KeptNewest days n ∷ []) count ∙ sym k.1.2, h.0 ∙ sym k.0)
    does_one w (Control (commands.Watch every)) s next other parts others h k = (h.1 ∙ sym k.1, h.0 ∙ sym k.0)
    does_one w (Control (commands.Grace micros)) s next other parts others h k = (h.1 ∙ sym k.1, h.0 ∙ sym k.0)
    does_one w (Control commands.Model) s next other parts others h k = (h.1 ∙ sym k.1, h.0 ∙ sym k.0)
    does_one w (Control commands.Paths) s next other parts others h k = (h.1 ∙ sym k.1, h.0 ∙ sym k.0)
    does_one w (Control commands.Slack) s next other parts others h k = (h.1 ∙ sym k.1, h.0 ∙ sym k.0)
    does_one w (Control commands.Report) s next other parts others h k = (h.1.2 ∙ ap (report_parts s.given s.kept) (names_one s.kept h.1.0 k.1.0 h.1.1 k.1.1) ∙ sym k.1.2, h.0 ∙ sym k.0)
    does_one w (Control commands.Graph) s next other parts others h k = (h.1 ∙ sym k.1, h.0 ∙ sym k.0)
    does_one w (Control commands.Summarize) s next other parts others h k = (h.1 ∙ sym k.1, h.0 ∙ sym k.0)
    does_one w Summary s next other parts others h k = (h.1 ∙ sym k.1, h.0 ∙ sym k.0)
    does_one w (WhatIf change) s next other parts others h k = (h.1 ∙ sym k.1, h.0 ∙ sym k.0)
    does_one w Tail s next other parts others h k = (h.1.2 ∙ ap (tail_parts s.given s.kept) (names_one s.kept h.1.0 k.1.0 h.1.1 k.1.1) ∙ sym k.1.2, h.0 ∙ sym k.0)
    does_one w Why s next other parts others h k = (h.1.2 ∙ ap (why_parts s.kept) (refutations_one told s.kept h.1.0 k.1.0 h.1.1 k.1.1) ∙ sym k.1.2, h.0 ∙ sym k.0)
    does_one w (Verify claims) s next other parts others h k = (h.1.2 ∙ ap (verify_parts claims) (verdicts_one s.kept claims h.1.0 k.1.0 h.1.1 k.1.1) ∙ sym k.1.2, h.0 ∙ sym k.0)
    does_one w (Evidence choice) s next other parts others h k = (h.1 ∙ sym k.1, h.0 ∙ sym k.0)
