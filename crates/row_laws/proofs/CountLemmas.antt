-- The figures of two names count traces, where no trace has a name twice.
use Rattle.std.proofs.Common.{◌≡◌, ◌↔◌, ℕ, zero, suc, ◌+◌, ◌-◌, ◌<◌, ◌≤◌, Bool, true, false, not, cond, ◌&&◌, List, [], ◌∷◌, length, flat_map, count_by, AllPairs, Contains, refl, sym, ap, ◌∙◌, subst, arith, length-append}
use Rattle.std.proofs.lemmas.List.Elements.{All-head, All-tail}
use Rattle.std.proofs.lemmas.Bool.{and_left, and_right}
use Rattle.std.proofs.lemmas.List.Sums.{count_by-le-length, sum_by-append, sum_by-cons}
use Rattle.trace_types.specs.Parts.{Parts}
use Rattle.trace_types.specs.Refuting.{RefutesApart, RefutesBefore, RefutesExclusive}
use Rattle.trace_types.specs.SegmentLists.{NamesDiffer}
use Rattle.trace_types.specs.Surviving.{IsRefuted}
use Rattle.trace_types.proofs.MatchLemmas.{zip_map}
use Rattle.trace_types.proofs.TruthLemmas.{by_truth}
use Rattle.trace_types.proofs.ListingLemmas.{cons_here, head_before, pairs_tail}
use Rattle.evidence_rules.specs.Meetings.{is_both, is_early, is_turned, meeting, meetings_from, meetings_in}
use Rattle.evidence_rules.specs.Sharings.{AreVerdicts}
use Rattle.evidence_rules.specs.declared.meeting.Meeting.{Meeting}
use Rattle.evidence_laws.specs.ModelLaws.{TellsSame}
use Rattle.evidence_laws.proofs.HasLemmas.{Has, apart_tells, both_tells, counted_has, early_tells, has_counted, turned_tells}
use Rattle.evidence_laws.proofs.ModelLemmas.{some_verdict, verdicts_some}
use Rattle.row_laws.specs.TraceCounts.{AreAtLeast, AreSoMany, FiguresCountTraces, HaveNamesOnce}

-- ---- lists one after another of which at most one has something
module _ {X Y : Type 0} (f : X → List Y) (test : X → Bool) (none : (x : X) → test x ≡ false → length (f x) ≡ 0) where
  flat_none : (xs : List X) → ((x : X) → Contains xs x → test x ≡ false) → length (flat_map f xs) ≡ 0
  flat_none [] each = refl
  flat_none (x ∷ xs) each =
      let here = none x (each x (cons_here x xs)) in
      let rest = flat_none xs (λ y c. each y (suc c.0, omega (arith, c.1), c.2)) in
      omega (arith, length-append (f x) (flat_map f xs), here, rest)

  flat_few : ((x : X) → length (f x) ≤ 1) → (xs : List X) → AllPairs (λ x y. test x ≡ true → test y ≡ true → ⊥) xs → length (flat_map f xs) ≤ 1
  flat_few one [] apart = omega arith
  flat_few one (x ∷ xs) apart = by (test x) refl (flat_few one xs (pairs_tail (λ u v. test u ≡ true → test v ≡ true → ⊥) x xs apart))
    where
      no : (q : Bool) → (q ≡ true → ⊥) → q ≡ false
      no true h = absurd (h refl)
      no false h = refl

      by : (q : Bool) → test x ≡ q → length (flat_map f xs) ≤ 1 → length (flat_map f (x ∷ xs)) ≤ 1
      by true e rest =
          let empty = flat_none xs (λ y c. no (test y) (head_before (λ u v. test u ≡ true → test v ≡ true → ⊥) x xs y apart c e)) in
          omega (arith, length-append (f x) (flat_map f xs), one x, empty)
      by false e rest = omega (arith, length-append (f x) (flat_map f xs), none x e, rest)

-- ---- verdicts on traces
abbrev trues : List Bool → ℕ
trues vs = count_by (λ v. v) vs

trues_first : (v : Bool) (vs : List Bool) → trues (v ∷ vs) ≡ cond v 1 0 + trues vs
trues_first v vs = sum_by-cons (λ (w : Bool). cond w 1 0) v vs

-- whether there is one
abbrev some : ℕ → Bool
some zero = false
some (suc n) = true

some_tells : (n : ℕ) → (some n ≡ true) ↔ (0 < n)
some_tells zero = ((λ e. absurd (let f : false ≡ true = e in cc)), (λ l. absurd (omega arith)))
some_tells (suc n) = ((λ e. omega arith), (λ l. refl))

one_or_none : (n : ℕ) → n ≤ 1 → n ≡ cond (some n) 1 0
one_or_none zero l = refl
one_or_none (suc n) l = omega arith

count_all : {X : Type 0} (xs : List X) → length xs ≡ count_by (λ x. true) xs
count_all [] = refl
count_all (x ∷ xs) = omega (arith, count_all xs, sum_by-cons (λ (y : _). 1) x xs)

-- the true ones without those that are true in a second list
abbrev but : Bool → Bool → Bool
but v w = v && not w

abbrev less : List Bool → List Bool → List Bool
less [] ws = []
less (v ∷ vs) [] = []
less (v ∷ vs) (w ∷ ws) = but v w ∷ less vs ws

module _ {A : Type 0} where
  pub so_many_same : (P Q : A → Type 0) → ((t : A) → P t ↔ Q t) → (traces : List A) (n : ℕ) → AreSoMany P traces n → AreSoMany Q traces n
  so_many_same P Q same traces n are = record {
    verdicts = are.verdicts;
    told = zip_map (λ t v. (v ≡ true) ↔ P t) (λ t v. (v ≡ true) ↔ Q t) (λ t v h. ((λ e. (same t).0 (h.0 e)), (λ q. h.1 ((same t).1 q)))) traces are.verdicts are.told;
    count = are.count;
  }

  -- ---- traces that have a property, less those that have another too
  module _ (P Q : A → Type 0) (is : (t : A) → Q t → P t) where
    but_tells : (t : A) (v w : Bool) → (v ≡ true) ↔ P t → (w ≡ true) ↔ Q t → (but v w ≡ true) ↔ (P t × (Q t → ⊥))
    but_tells t true true h k = ((λ e. absurd (let f : false ≡ true = e in cc)), (λ b. absurd (b.1 (k.0 refl))))
    but_tells t true false h k = ((λ e. (h.0 refl, λ q. let f : false ≡ true = k.1 q in cc)), (λ b. refl))
    but_tells t false w h k = ((λ e. absurd (let f : false ≡ true = e in cc)), (λ b. h.1 b.0))

    less_told : (traces : List A) (vs ws : List Bool) → AreVerdicts P traces vs → AreVerdicts Q traces ws → AreVerdicts (λ t. P t × (Q t → ⊥)) traces (less vs ws)
    less_told [] [] ws h k = tt
    less_told [] (v ∷ vs) ws h k = absurd h
    less_told (t ∷ ts) [] ws h k = absurd h
    less_told (t ∷ ts) (v ∷ vs) [] h k = absurd k
    less_told (t ∷ ts) (v ∷ vs) (w ∷ ws) h k = (but_tells t v w h.0 k.0, less_told ts vs ws h.1 k.1)

    but_count : (t : A) (v w : Bool) → (v ≡ true) ↔ P t → (w ≡ true) ↔ Q t → cond v 1 0 ≡ cond w 1 0 + cond (but v w) 1 0
    but_count t true true h k = refl
    but_count t true false h k = refl
    but_count t false true h k = absurd (let f : false ≡ true = h.1 (is t (k.0 refl)) in cc)
    but_count t false false h k = omega arith

    less_count : (traces : List A) (vs ws : List Bool) → AreVerdicts P traces vs → AreVerdicts Q traces ws → trues vs ≡ trues ws + trues (less vs ws)
    less_count [] [] [] h k = omega arith
    less_count [] [] (w ∷ ws) h k = absurd k
    less_count [] (v ∷ vs) ws h k = absurd h
    less_count (t ∷ ts) [] ws h k = absurd h
    less_count (t ∷ ts) (v ∷ vs) [] h k = absurd k
    less_count (t ∷ ts) (v ∷ vs) (w ∷ ws) h k =
        let rest = less_count ts vs ws h.1 k.1 in
        let here = but_count t v w h.0 k.0 in
        omega (arith, rest, here, trues_first v vs, trues_first w ws, trues_first (but v w) (less vs ws))

    pub so_many_less : (traces : List A) (n m : ℕ) → AreSoMany P traces n → AreSoMany Q traces m → AreSoMany (λ t. P t × (Q t → ⊥)) traces (n - m)
    so_many_less traces n m all some_are = record {
      verdicts = less all.verdicts some_are.verdicts;
      told = less_told traces all.verdicts some_are.verdicts all.told some_are.told;
      count = let e = less_count traces all.verdicts some_are.verdicts all.told some_are.told in omega (arith, e, all.count, some_are.count);
    }

  -- ---- the number is one
  verdicts_one : (P : A → Type 0) (traces : List A) (vs ws : List Bool) → AreVerdicts P traces vs → AreVerdicts P traces ws → vs ≡ ws
  verdicts_one P [] [] [] h k = refl
  verdicts_one P [] [] (w ∷ ws) h k = absurd k
  verdicts_one P [] (v ∷ vs) ws h k = absurd h
  verdicts_one P (t ∷ ts) [] ws h k = absurd h
  verdicts_one P (t ∷ ts) (v ∷ vs) [] h k = absurd k
  verdicts_one P (t ∷ ts) (v ∷ vs) (w ∷ ws) h k =
      ap (λ (u : Bool). u ∷ vs) (by_truth v w (λ e. k.0.1 (h.0.0 e)) (λ e. h.0.1 (k.0.0 e))) ∙ ap (λ (l : List Bool). w ∷ l) (verdicts_one P ts vs ws h.1 k.1)

  pub so_many_one : (P : A → Type 0) (traces : List A) (n m : ℕ) → AreSoMany P traces n → AreSoMany P traces m → n ≡ m
  so_many_one P traces n m h k = h.count ∙ ap trues (verdicts_one P traces h.verdicts k.verdicts h.told k.told) ∙ sym k.count

  -- where so many have the property, at least some number have it exactly where it is no greater
  pub at_least_tells : (P : A → Type 0) (traces : List A) (least n : ℕ) → AreSoMany P traces n → (least ≤ n) ↔ AreAtLeast P least traces
  at_least_tells P traces least n are = (
    (λ l. record { number = n; are = are; enough = l }),
    (λ h. let e = so_many_one P traces n h.number are h.are in omega (arith, h.enough, e)),
  )

  -- some trace has it exactly where the number is not 0
  pub many_some : (P : A → Type 0) (traces : List A) (n : ℕ) → AreSoMany P traces n → 0 < n → IsRefuted P traces
  many_some P traces n are l = verdicts_some P traces are.verdicts are.told (subst (λ (k : ℕ). 0 < k) are.count l)

  pub some_many : (P : A → Type 0) (traces : List A) (n : ℕ) → AreSoMany P traces n → IsRefuted P traces → 0 < n
  some_many P traces n are r = subst (λ (k : ℕ). 0 < k) (sym are.count) (some_verdict P traces are.verdicts are.told r.0 r.1 r.2 r.3 r.4)

-- ---- the meetings of two names
module _ {A S N T E : Type 0} (p : Parts A S N T E) (same : N → N → Bool) (tells : TellsSame same) (a b : N) where
  -- a trace has at most one
  few_in : (index : ℕ) (trace : A) → NamesDiffer p.name (p.segments trace) → length (meetings_in p same a b index trace) ≤ 1
  few_in index trace differ = flat_few outer (λ s. same (p.name s) a) no_outer (λ s. flat_few (inner s) (λ t. same (p.name t) b) (no_inner s) (one_inner s) (p.segments trace) (apart b)) (p.segments trace) (apart a)
    where
      inner : S → S → List Meeting
      inner s t = cond (same (p.name s) a && same (p.name t) b) (meeting p index trace s t ∷ []) []

      outer : S → List Meeting
      outer s = flat_map (inner s) (p.segments trace)

      apart : (c : N) → AllPairs (λ s t. same (p.name s) c ≡ true → same (p.name t) c ≡ true → ⊥) (p.segments trace)
      apart c i j d lt within e f = differ i j d lt within ((tells _ c).0 e ∙ sym ((tells _ c).0 f))

      one_inner : (s t : S) → length (inner s t) ≤ 1
      one_inner s t = by (same (p.name s) a && same (p.name t) b)
        where
          by : (q : Bool) → length (cond q (meeting p index trace s t ∷ []) []) ≤ 1
          by true = omega arith
          by false = omega arith

      no_inner : (s t : S) → same (p.name t) b ≡ false → length (inner s t) ≡ 0
      no_inner s t e = ap (λ (q : Bool). length (cond q (meeting p index trace s t ∷ []) [])) (and_right (same (p.name s) a) (same (p.name t) b) e)

      no_outer : (s : S) → same (p.name s) a ≡ false → length (outer s) ≡ 0
      no_outer s e = flat_none (inner s) (λ t. false) (λ t f. ap (λ (q : Bool). length (cond q (meeting p index trace s t ∷ []) [])) (and_left (same (p.name s) a) (same (p.name t) b) e)) (p.segments trace) (λ t c. refl)

  module _ (test : Meeting → Bool) (P : A → Type 0) (each : (index : ℕ) (trace : A) → Has test (meetings_in p same a b index trace) ↔ P trace) where
    abbrev verdict : ℕ → A → Bool
    verdict index trace = some (count_by test (meetings_in p same a b index trace))

    abbrev verdicts_from : ℕ → List A → List Bool
    verdicts_from index [] = []
    verdicts_from index (t ∷ ts) = verdict index t ∷ verdicts_from (index + 1) ts

    verdict_tells : (index : ℕ) (trace : A) → (verdict index trace ≡ true) ↔ P trace
    verdict_tells index trace = (
      (λ e. (each index trace).0 (counted_has test (meetings_in p same a b index trace) ((some_tells (count_by test (meetings_in p same a b index trace))).0 e))),
      (λ is. (some_tells (count_by test (meetings_in p same a b index trace))).1 (has_counted test (meetings_in p same a b index trace) ((each index trace).1 is))),
    )

    all_told : (index : ℕ) (traces : List A) → AreVerdicts P traces (verdicts_from index traces)
    all_told index [] = tt
    all_told index (t ∷ ts) = (verdict_tells index t, all_told (index + 1) ts)

    counted_from : (index : ℕ) (traces : List A) → HaveNamesOnce p traces → count_by test (meetings_from p same a b index traces) ≡ trues (verdicts_from index traces)
    counted_from index [] once = refl
    counted_from index (t ∷ ts) once =
        let met = meetings_in p same a b index t in
        let rest = counted_from (index + 1) ts (All-tail (λ u. NamesDiffer p.name (p.segments u)) t ts once) in
        let few = few_in index t (All-head (λ u. NamesDiffer p.name (p.segments u)) t ts once) in
        let one = one_or_none (count_by test met) (omega (arith, few, count_by-le-length test met)) in
        omega (arith, rest, one, sum_by-append (λ (m : Meeting). cond (test m) 1 0) met (meetings_from p same a b (index + 1) ts), trues_first (verdict index t) (verdicts_from (index + 1) ts))

    pub so_many_met : (traces : List A) (n : ℕ) → HaveNamesOnce p traces → n ≡ count_by test (meetings_from p same a b 0 traces) → AreSoMany P traces n
    so_many_met traces n once e = record { verdicts = verdicts_from 0 traces; told = all_told 0 traces; count = e ∙ counted_from 0 traces once }

module _ {A S N T E : Type 0} (p : Parts A S N T E) where
  apart_turned : (a b : N) (trace : A) → RefutesApart p a b trace ↔ RefutesApart p b a trace
  apart_turned a b trace = ((λ r. (r.1, r.0, r.3, r.2, r.5, r.4, tt)), (λ r. (r.1, r.0, r.3, r.2, r.5, r.4, tt)))

  early_both : (a b : N) (trace : A) → RefutesBefore p a b trace → RefutesApart p a b trace
  early_both a b trace r = (r.0, r.1, r.2, r.3, r.4, r.5, tt)

  pub figures_count : (same : N → N → Bool) → FiguresCountTraces p same
  figures_count same tells traces a b f once are = record {
    have_both = have_both;
    early = early;
    turned = turned;
    both = so_many_met p same tells a b is_both (RefutesExclusive p a b) (both_tells p same tells a b) traces f.both once are.both;
    first = so_many_less (RefutesApart p a b) (RefutesBefore p a b) (early_both a b) traces f.traces f.early have_both early;
    second = so_many_less (RefutesApart p b a) (RefutesBefore p b a) (early_both b a) traces f.traces f.turned (so_many_same (RefutesApart p a b) (RefutesApart p b a) (apart_turned a b) traces f.traces have_both) turned;
  }
    where
      have_both : AreSoMany (RefutesApart p a b) traces f.traces
      have_both = so_many_met p same tells a b (λ m. true) (RefutesApart p a b) (apart_tells p same tells a b) traces f.traces once (are.traces ∙ count_all (meetings_from p same a b 0 traces))

      early : AreSoMany (RefutesBefore p a b) traces f.early
      early = so_many_met p same tells a b is_early (RefutesBefore p a b) (early_tells p same tells a b) traces f.early once are.early

      turned : AreSoMany (RefutesBefore p b a) traces f.turned
      turned = so_many_met p same tells a b is_turned (RefutesBefore p b a) (turned_tells p same tells a b) traces f.turned once are.turned
