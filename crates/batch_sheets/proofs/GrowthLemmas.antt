-- A catalogue that grows by traces, and the traces that are named by it.
use Rattle.std.proofs.Common.{◌≡◌, ℕ, zero, suc, ◌+◌, ◌-◌, ◌<◌, ◌≤◌, inl, inr, Bool, true, List, [], ◌∷◌, ◌++◌, length, map, take, All, Contains, sym, ap, ◌∙◌, subst, append-nil, append_assoc, arith}
use Rattle.std.proofs.Math.Seq.{take-append-add}
use Rattle.std.proofs.lemmas.Bool.{cases_lt}
use Rattle.std.proofs.lemmas.Grind.{flat_map-append}
use Rattle.std.proofs.lemmas.List.{length-append, map-append, take-append-le}
use Rattle.std.proofs.lemmas.List.Elements.{All-nil, All-cons}
use Rattle.std.specs.List.{AllZip, enumerate_from, flat_map}
use Rattle.std.specs.Str.{bytes_eq}
use Rattle.book_laws.specs.BookLaws.{GrownShows}
use Rattle.book_laws.specs.Shown.{AreShown, IsShown}
use Rattle.refute_tests.specs.Clearing.{HaveNamesBelow}
use Rattle.segment_names.specs.Known.{Known, same_name, with_segments, with_traces}
use Rattle.segment_names.specs.Limits.{Fits, HasCause, IsKept, IsPassed, PassesLimit}
use Rattle.segment_names.specs.declared.name_fault.NameFault.{NameFault}
use Rattle.segment_names.specs.declared.name_fault.NameFault.TheVariants.{Memory, Over}
use Rattle.segment_names.specs.declared.name_fault.NameLimit.{NameLimit}
use Rattle.segment_names.specs.declared.name_fault.NameLimit.TheVariants.{Names, Tasks}
use Rattle.session_rules.specs.KeptTraces.{Kept, by_kept, kept_with}
use Rattle.trace_types.specs.Firsts.{firsts_of}
use Rattle.trace_types.specs.Parts.{by_number}
use Rattle.trace_types.specs.Renaming.{IsSegmentRenamed}
use Rattle.trace_types.specs.Segments.{name_of, task_of}
use Rattle.trace_types.specs.declared.named_segment.NamedSegment.{NamedSegment}
use Rattle.trace_types.specs.declared.named_trace.NamedTrace.{NamedTrace}
use Rattle.trace_types.specs.declared.segment.Segment.{Segment}
use Rattle.trace_types.specs.declared.trace.Trace.{Trace}
use Rattle.trace_types.proofs.ComparingLemmas.{text_means, text_own}
use Rattle.segment_names.proofs.TextLemmas.{name_means, name_own}
use Rattle.batch_sheets.specs.inner.Growth.{AddsAndNames, AppendsNamed}
use Rattle.batch_sheets.proofs.FirstLemmas.{firsts_again, firsts_there}
use Rattle.batch_sheets.proofs.ZipLemmas.{zip_append}

-- ---- a catalogue after traces

abbrev pub segments_in : List Trace → List Segment
segments_in traces = flat_map (λ (t : Trace). t.segments) traces

twice : {X : Type 0} (same : X → X → Bool) (means : (x y : X) → same x y ≡ true → x ≡ y) (f : Segment → X) (was : List X) (front back : List Segment)
    → firsts_of same (firsts_of same (was ++ map f front) ++ map f back) ≡ firsts_of same (was ++ map f (front ++ back))
twice same means f was front back =
    firsts_again same means (was ++ map f front) (map f back)
    ∙ ap (firsts_of same) (append_assoc was (map f front) (map f back) ∙ ap (λ l. was ++ l) (sym (map-append f front back)))

-- traces after traces
pub traces_after : (known : Known) (xs ys : List Trace) → with_traces (with_traces known xs) ys ≡ with_traces known (xs ++ ys)
traces_after known xs ys =
    let names = twice same_name name_means name_of known.names (segments_in xs) (segments_in ys) in
    let tasks = twice bytes_eq text_means task_of known.tasks (segments_in xs) (segments_in ys) in
    let both : with_traces (with_traces known xs) ys ≡ with_segments known (segments_in xs ++ segments_in ys) = λ j. record { names = names j; tasks = tasks j } in
    both ∙ ap (with_segments known) (sym (flat_map-append (λ (t : Trace). t.segments) xs ys))

-- segments whose names and tasks are there add nothing
nothing_new : (known : Known) (segments : List Segment) → IsKept known → All (Contains known.names) (map name_of segments) → All (Contains known.tasks) (map task_of segments) → with_segments known segments ≡ known
nothing_new known segments kept names tasks =
    let a = firsts_there same_name name_means name_own known.names (map name_of segments) kept.names_differ names in
    let b = firsts_there bytes_eq text_means text_own known.tasks (map task_of segments) kept.tasks_differ tasks in
    λ j. record { names = a j; tasks = b j }

pub none_after : (known : Known) → IsKept known → with_traces known [] ≡ known
none_after known kept = nothing_new known [] kept (All-nil (Contains known.names)) (All-nil (Contains known.tasks))

pub one_after : (known : Known) (trace : Trace) → with_segments known trace.segments ≡ with_traces known (trace ∷ [])
one_after known trace = ap (with_segments known) (sym (append-nil trace.segments))

-- ---- what a named trace says of the catalogue

record IsNumberOf {X : Type 0} (n : ℕ) (xs : List X) (i : ℕ) (x : X) : Type 0 where
  below : i < n + length xs
  there : Contains xs x

numbered : {X : Type 0} (n : ℕ) (xs : List X) (i : ℕ) (x : X) → Contains (enumerate_from n xs) (i, x) → IsNumberOf n xs i x
numbered n [] i x (k, l, e) = absurd (omega (arith, l))
numbered n (y ∷ ys) i x (zero, l, e) = let same : n ≡ i = ap (λ p. p.0) e in record { below = omega (arith, same); there = (0, omega arith, ap (λ p. p.1) e) }
numbered n (y ∷ ys) i x (suc k, l, e) =
    let rest = numbered (n + 1) ys i x (k, omega (arith, l), e) in
    let low = rest.below in
    record { below = omega (arith, low); there = (suc rest.there.0, omega (arith, rest.there.1), rest.there.2) }

module _ (known : Known) (elements : List (ℕ × List ℕ)) where
  abbrev IsRenamed : NamedSegment → Segment → Type 0
  IsRenamed s x = IsSegmentRenamed by_number by_kept (enumerate_from 0 known.names) (enumerate_from 0 known.tasks) elements s x

  names_there : (ns : List NamedSegment) (ss : List Segment) → AllZip IsRenamed ns ss → All (Contains known.names) (map name_of ss)
  names_there [] [] z = All-nil (Contains known.names)
  names_there [] (s ∷ ss) z = absurd z
  names_there (n ∷ ns) [] z = absurd z
  names_there (n ∷ ns) (s ∷ ss) z = All-cons (Contains known.names) (name_of s) (map name_of ss) (numbered 0 known.names n.name (name_of s) z.0.name).there (names_there ns ss z.1)

  tasks_there : (ns : List NamedSegment) (ss : List Segment) → AllZip IsRenamed ns ss → All (Contains known.tasks) (map task_of ss)
  tasks_there [] [] z = All-nil (Contains known.tasks)
  tasks_there [] (s ∷ ss) z = absurd z
  tasks_there (n ∷ ns) [] z = absurd z
  tasks_there (n ∷ ns) (s ∷ ss) z = All-cons (Contains known.tasks) s.task (map task_of ss) (numbered 0 known.tasks n.task s.task z.0.task).there (tasks_there ns ss z.1)

  numbers_below : (ns : List NamedSegment) (ss : List Segment) → AllZip IsRenamed ns ss → All (λ (s : NamedSegment). s.name < length known.names) ns
  numbers_below [] [] z = All-nil (λ (s : NamedSegment). s.name < length known.names)
  numbers_below [] (s ∷ ss) z = absurd z
  numbers_below (n ∷ ns) [] z = absurd z
  numbers_below (n ∷ ns) (s ∷ ss) z =
      let low = (numbered 0 known.names n.name (name_of s) z.0.name).below in
      All-cons (λ (s : NamedSegment). s.name < length known.names) n ns (omega (arith, low)) (numbers_below ns ss z.1)

-- a trace that the catalogue names adds nothing to it
pub shown_after : (known : Known) (named : NamedTrace) (grace : ℕ) (trace : Trace) → IsKept known → IsShown known named (kept_with grace trace) → with_segments known trace.segments ≡ known
shown_after known named grace trace kept shown =
    let r = shown.renamed in
    nothing_new known trace.segments kept (names_there known r.elements named.segments trace.segments r.segments) (tasks_there known r.elements named.segments trace.segments r.segments)

-- the names of named traces are below the count of names
pub shown_below : (known : Known) (named : List NamedTrace) (kept : List Kept) → AreShown known named kept → All (HaveNamesBelow (length known.names)) named
shown_below known [] [] z = All-nil (HaveNamesBelow (length known.names))
shown_below known [] (k ∷ ks) z = absurd z
shown_below known (n ∷ ns) [] z = absurd z
shown_below known (n ∷ ns) (k ∷ ks) z =
    All-cons (HaveNamesBelow (length known.names)) n ns (numbers_below known z.0.renamed.elements n.segments k.trace.segments z.0.renamed.segments) (shown_below known ns ks z.1)

-- ---- limits

pub cause_weaker : (P Q : NameLimit → Type 0) → ((l : NameLimit) → P l → Q l) → (fault : NameFault) → HasCause P fault → HasCause Q fault
cause_weaker P Q weaker Memory h = h
cause_weaker P Q weaker (Over limit) h = weaker limit h

-- a limit that the first traces pass
pub front_passes : (old : Known) (xs ys : List Trace) (fault : NameFault) → HasCause (PassesLimit old xs) fault → HasCause (PassesLimit old (xs ++ ys)) fault
front_passes old xs ys = cause_weaker (PassesLimit old xs) (PassesLimit old (xs ++ ys)) (λ f p.
    let long = length-append xs ys in
    let low = p.1 in (
      p.0,
      omega (arith, long, low),
      (λ j le. subst (λ (ts : List Trace). Fits (with_traces old ts)) (sym (take-append-le j xs ys (omega (arith, le, low)))) (p.2 j le)),
      subst (λ (ts : List Trace). IsPassed (with_traces old ts) f) (sym (take-append-le (p.0 + 1) xs ys (omega (arith, low)))) p.3,
    ))

-- one that a trace passes at once
pub one_passes : (old : Known) (trace : Trace) (fault : NameFault) → IsKept old → HasCause (IsPassed (with_segments old trace.segments)) fault → HasCause (PassesLimit old (trace ∷ [])) fault
one_passes old trace fault kept = cause_weaker (IsPassed (with_segments old trace.segments)) (PassesLimit old (trace ∷ [])) (λ f p. (
  0,
  omega arith,
  (λ j le. let none : j ≡ 0 = omega (arith, le) in subst (λ (n : ℕ). Fits (with_traces old (take n (trace ∷ [])))) (sym none) (subst Fits (sym (none_after old kept)) (kept.few_names, kept.few_tasks))),
  subst (λ (k : Known). IsPassed k f) (one_after old trace) p,
)) fault

-- none is passed where all traces fit
pub none_passes : (old new : Known) (grace : ℕ) (traces : List Trace) (named : List NamedTrace) → AddsAndNames old new grace traces named → (limit : NameLimit) → PassesLimit old traces limit → ⊥
none_passes old new grace traces named a (Names count) p = let h = p.1 in let f = (a.fits (p.0 + 1) (omega (arith, h))).0 in let g = p.3.0 in absurd (omega (arith, f, g))
none_passes old new grace traces named a (Tasks count) p = let h = p.1 in let f = (a.fits (p.0 + 1) (omega (arith, h))).1 in let g = p.3.1 in absurd (omega (arith, f, g))

-- ---- traces that are added and named

-- none
pub adds_none : (known : Known) (grace : ℕ) → IsKept known → AddsAndNames known known grace [] []
adds_none known grace kept = record {
  kept = kept;
  added = sym (none_after known kept);
  fits = λ j le. let none : j ≡ 0 = omega (arith, le) in subst (λ (n : ℕ). Fits (with_traces known (take n []))) (sym none) (subst Fits (sym (none_after known kept)) (kept.few_names, kept.few_tasks));
  shown = tt;
}

-- one
pub adds_one : (old new : Known) (grace : ℕ) (trace : Trace) (named : NamedTrace) → IsKept old → IsKept new → new ≡ with_segments old trace.segments → IsShown new named (kept_with grace trace)
    → AddsAndNames old new grace (trace ∷ []) (named ∷ [])
adds_one old new grace trace named was kept added shown = record {
  kept = kept;
  added = added ∙ one_after old trace;
  fits = fits;
  shown = (shown, tt);
}
  where
    fits : (j : ℕ) → j ≤ 1 → Fits (with_traces old (take j (trace ∷ [])))
    fits zero le = subst Fits (sym (none_after old was)) (was.few_names, was.few_tasks)
    fits (suc zero) le = subst Fits (added ∙ one_after old trace) (kept.few_names, kept.few_tasks)
    fits (suc (suc j)) le = absurd (omega (arith, le))

-- traces, and then more
module _ (grown : GrownShows) (old mid : Known) (grace : ℕ) (xs : List Trace) (ns : List NamedTrace) (a : AddsAndNames old mid grace xs ns) where
  later : (ys : List Trace) (i : ℕ) → with_traces mid (take i ys) ≡ with_traces old (take (length xs + i) (xs ++ ys))
  later ys i = ap (λ k. with_traces k (take i ys)) a.added ∙ (traces_after old xs (take i ys) ∙ ap (with_traces old) (sym (take-append-add xs ys i)))

  fit_all : (ys : List Trace) (n : ℕ) → ((i : ℕ) → i ≤ n → Fits (with_traces mid (take i ys))) → (j : ℕ) → j ≤ length xs + n → Fits (with_traces old (take j (xs ++ ys)))
  fit_all ys n fits j le = elim (cases_lt (length xs) j) [
    | inl over ↦
        let is : length xs + (j - length xs) ≡ j = omega (arith, over) in
        subst (λ (n : ℕ). Fits (with_traces old (take n (xs ++ ys)))) is (subst Fits (later ys (j - length xs)) (fits (j - length xs) (omega (arith, le, over))))
    | inr low ↦ subst (λ (ts : List Trace). Fits (with_traces old ts)) (sym (take-append-le j xs ys low)) (a.fits j low)
  ]

  -- a limit that the later traces pass
  pub back_passes : (ys : List Trace) (fault : NameFault) → HasCause (PassesLimit mid ys) fault → HasCause (PassesLimit old (xs ++ ys)) fault
  back_passes ys = cause_weaker (PassesLimit mid ys) (PassesLimit old (xs ++ ys)) (λ f p.
      let long = length-append xs ys in
      let low = p.1 in
      let plus : length xs + (p.0 + 1) ≡ length xs + p.0 + 1 = omega arith in (
        length xs + p.0,
        omega (arith, long, low),
        fit_all ys p.0 p.2,
        subst (λ (n : ℕ). IsPassed (with_traces old (take n (xs ++ ys))) f) plus (subst (λ (k : Known). IsPassed k f) (later ys (p.0 + 1)) p.3),
      ))

  pub adds_more : (new : Known) (ys : List Trace) (ms : List NamedTrace) → AddsAndNames mid new grace ys ms → AddsAndNames old new grace (xs ++ ys) (ns ++ ms)
  adds_more new ys ms b = record {
    kept = b.kept;
    added = b.added ∙ (ap (λ k. with_traces k ys) a.added ∙ traces_after old xs ys);
    fits = λ j le. let long = length-append xs ys in fit_all ys (length ys) b.fits j (omega (arith, le, long));
    shown =
        let early : AreShown new ns (map (kept_with grace) xs) = subst (λ (k : Known). AreShown k ns (map (kept_with grace) xs)) (sym b.added) (grown mid ys ns (map (kept_with grace) xs) a.kept a.shown) in
        subst (AreShown new (ns ++ ms)) (sym (map-append (kept_with grace) xs ys)) (zip_append (IsShown new) ns ms (map (kept_with grace) xs) (map (kept_with grace) ys) early b.shown);
  }

  -- likewise behind those from before
  pub appends_more : (new : Known) (ys : List Trace) (before now then : List NamedTrace) → now ≡ before ++ ns → AppendsNamed mid new grace ys now then → AppendsNamed old new grace (xs ++ ys) before then
  appends_more new ys before now then is (ms, more, b) = (ns ++ ms, more ∙ (ap (λ l. l ++ ms) is ∙ append_assoc before ns ms), adds_more new ys ms b)
