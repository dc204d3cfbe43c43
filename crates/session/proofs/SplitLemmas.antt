-- The traces of days that were split, and how many all sheets have.
use Rattle.std.proofs.Common.{◌≡◌, ◌≢◌, ℕ, suc, ◌<◌, ◌≤◌, ◌+◌, inl, inr, ◌==◌, List, [], ◌∷◌, length, map, All, AllPairs, refl, sym, ap, subst, arith}
use Rattle.std.proofs.lemmas.Bool.{cases_eq, eq-eqb, ne_eqb, cond-true, cond-false}
use Rattle.std.proofs.lemmas.List.Elements.{All-head, All-tail, All-weaker, All-filter}
use Rattle.std.proofs.lemmas.List.Sums.{sum_by-cons}
use Rattle.std.specs.Prelude.{sum_by}
use Rattle.batch_sheets.specs.Splitting.{AreSplit}
use Rattle.batch_sheets.specs.declared.days.DayTraces.{DayTraces}
use Rattle.day_partitions.specs.Batches.{trace_count}
use Rattle.day_partitions.specs.declared.dated_sheet.DatedSheet.{DatedSheet}
use Rattle.book_laws.specs.BookLaws.{AreSheetsOf}
use Rattle.book_laws.specs.Shown.{named_on}
use Rattle.refute_tests.specs.Clearing.{HaveNamesBelow}
use Rattle.trace_types.specs.declared.named_trace.NamedTrace.{NamedTrace}
use Rattle.batch_sheets.proofs.DayLemmas.{heads, tails}
use Rattle.session.proofs.SheetLemmas.{length_days, day_there}

pub below_each : (n : ℕ) (days : List ℕ) (named : List NamedTrace) (split : List DayTraces) → All (HaveNamesBelow n) named → AreSplit days named split → All (λ (s : DayTraces). All (HaveNamesBelow n) s.traces.items) split
below_each n days named split b h = All-weaker (λ (s : DayTraces). s.traces.items ≡ named_on s.day named) (λ (s : DayTraces). All (HaveNamesBelow n) s.traces.items)
    (λ s e. subst (All (HaveNamesBelow n)) (sym e) (All-filter (λ (t : NamedTrace). t.day == s.day) (HaveNamesBelow n) named b)) split h.so_far.each_list

short_filter : (d : ℕ) (named : List NamedTrace) → length (named_on d named) ≤ length named
short_filter d [] = omega arith
short_filter d (t ∷ ts) =
    let rest = short_filter d ts in
    elim (cases_eq t.day d) [
      | inl is ↦ let e = ap length (cond-true (t.day == d) (t ∷ named_on d ts) (named_on d ts) (eq-eqb t.day d is)) in omega (arith, rest, e)
      | inr other ↦ let e = ap length (cond-false (t.day == d) (t ∷ named_on d ts) (named_on d ts) (ne_eqb t.day d other)) in omega (arith, rest, e)
    ]

pub few_each : (most : ℕ) (days : List ℕ) (named : List NamedTrace) (split : List DayTraces) → length named < most → AreSplit days named split → All (λ (s : DayTraces). length s.traces.items < most) split
few_each most days named split l h = All-weaker (λ (s : DayTraces). s.traces.items ≡ named_on s.day named) (λ (s : DayTraces). length s.traces.items < most)
    (λ s e. let a = ap length e in let b = short_filter s.day named in omega (arith, l, a, b)) split h.so_far.each_list

-- ---- how many traces the sheets have
abbrev total : List ℕ → List NamedTrace → ℕ
total ds named = sum_by (λ d. length (named_on d named)) ds

one_day_more : (d : ℕ) (t : NamedTrace) (ts : List NamedTrace) → t.day ≡ d → length (named_on d (t ∷ ts)) ≡ suc (length (named_on d ts))
one_day_more d t ts is = ap length (cond-true (t.day == d) (t ∷ named_on d ts) (named_on d ts) (eq-eqb t.day d is))

no_more : (d : ℕ) (t : NamedTrace) (ts : List NamedTrace) → t.day ≢ d → length (named_on d (t ∷ ts)) ≡ length (named_on d ts)
no_more d t ts other = ap length (cond-false (t.day == d) (t ∷ named_on d ts) (named_on d ts) (ne_eqb t.day d other))

add_up : (all one rest : ℕ) (all' one' rest' : ℕ) → all ≡ one + rest → all' ≡ one' + rest' → one ≡ one' → rest ≡ rest' → all ≡ all'
add_up all one rest all' one' rest' e f g h = omega (arith, e, f, g, h)

same_total : (t : NamedTrace) (ts : List NamedTrace) (ds : List ℕ) → All (λ d. t.day ≢ d) ds → total ds (t ∷ ts) ≡ total ds ts
same_total t ts [] o = refl
same_total t ts (d ∷ ds) o =
    let rest = same_total t ts ds (All-tail (λ d. t.day ≢ d) d ds o) in
    add_up _ _ _ _ _ _ (sum_by-cons (λ d. length (named_on d (t ∷ ts))) d ds) (sum_by-cons (λ d. length (named_on d ts)) d ds) (no_more d t ts (All-head (λ d. t.day ≢ d) d ds o)) rest

at_most : (all one rest all' one' rest' : ℕ) → all ≡ one + rest → all' ≡ one' + rest' → one ≤ one' + 1 → rest ≡ rest' → all ≤ all' + 1
at_most all one rest all' one' rest' e f g h = omega (arith, e, f, g, h)

at_least : (all one rest all' one' rest' : ℕ) → all ≡ one + rest → all' ≡ one' + rest' → one ≡ one' → rest ≤ rest' + 1 → all ≤ all' + 1
at_least all one rest all' one' rest' e f g h = omega (arith, e, f, g, h)

one_more : (t : NamedTrace) (ts : List NamedTrace) (ds : List ℕ) → AllPairs (λ x y. x ≢ y) ds → total ds (t ∷ ts) ≤ total ds ts + 1
one_more t ts [] p = omega arith
one_more t ts (d ∷ ds) p = elim (cases_eq t.day d) [
  | inl is ↦ at_most _ _ _ _ _ _ (sum_by-cons (λ d. length (named_on d (t ∷ ts))) d ds) (sum_by-cons (λ d. length (named_on d ts)) d ds)
      (let e = one_day_more d t ts is in omega (arith, e)) (same_total t ts ds (subst (λ e. All (λ d. e ≢ d) ds) (sym is) (heads d ds p)))
  | inr other ↦ at_least _ _ _ _ _ _ (sum_by-cons (λ d. length (named_on d (t ∷ ts))) d ds) (sum_by-cons (λ d. length (named_on d ts)) d ds)
      (no_more d t ts other) (one_more t ts ds (tails d ds p))
]

none_total : (ds : List ℕ) → total ds [] ≡ 0
none_total [] = refl
none_total (d ∷ ds) = let e = sum_by-cons (λ d. length (named_on d [])) d ds in let r = none_total ds in sum_zero _ _ e r
  where
    sum_zero : (all rest : ℕ) → all ≡ 0 + rest → rest ≡ 0 → all ≡ 0
    sum_zero all rest e r = omega (arith, e, r)

total_short : (ds : List ℕ) → AllPairs (λ x y. x ≢ y) ds → (named : List NamedTrace) → total ds named ≤ length named
total_short ds p [] = let e = none_total ds in fits _ e
  where
    fits : (n : ℕ) → n ≡ 0 → n ≤ 0
    fits n e = omega (arith, e)
total_short ds p (t ∷ ts) = more _ _ _ (one_more t ts ds p) (total_short ds p ts)
  where
    more : (all rest long : ℕ) → all ≤ rest + 1 → rest ≤ long → all ≤ suc long
    more all rest long a b = omega (arith, a, b)

abbrev sheet_day : DatedSheet → ℕ
sheet_day s = s.day

count_total : (named : List NamedTrace) (sheets : List DatedSheet) → All (λ (s : DatedSheet). s.sheet.traces ≡ named_on s.day named) sheets → trace_count sheets ≡ total (map sheet_day sheets) named
count_total named [] h = refl
count_total named (s ∷ ss) h =
    add_up _ _ _ _ _ _ (sum_by-cons (λ (r : DatedSheet). length r.sheet.traces) s ss) (sum_by-cons (λ d. length (named_on d named)) s.day (map sheet_day ss))
    (ap length (All-head (λ (r : DatedSheet). r.sheet.traces ≡ named_on r.day named) s ss h))
    (count_total named ss (All-tail (λ (r : DatedSheet). r.sheet.traces ≡ named_on r.day named) s ss h))

days_differ : (sheets : List DatedSheet) → AllPairs (λ (r s : DatedSheet). r.day < s.day) sheets → AllPairs (λ x y. x ≢ y) (map sheet_day sheets)
days_differ [] p i j d l m = absurd (omega (arith, m))
days_differ (s ∷ ss) p i j d l m =
    let n = length_days (s ∷ ss) in
    let less = p i j s l (omega (arith, m, n)) in
    let a = day_there (s ∷ ss) i s d (omega (arith, l, m, n)) in
    let b = day_there (s ∷ ss) j s d (omega (arith, m, n)) in
    λ same. apart _ _ _ _ less a b same
  where
    apart : (x y u v : ℕ) → u < v → x ≡ u → y ≡ v → x ≡ y → ⊥
    apart x y u v l e f g = absurd (omega (arith, l, e, f, g))

-- the sheets have no more traces than there are
pub sheets_few : (named : List NamedTrace) (sheets : List DatedSheet) → AreSheetsOf sheets named → trace_count sheets ≤ length named
sheets_few named sheets h =
    let e = count_total named sheets h.each in
    let l = total_short (map sheet_day sheets) (days_differ sheets h.rising) named in
    fits _ _ _ e l
  where
    fits : (count all long : ℕ) → count ≡ all → all ≤ long → count ≤ long
    fits count all long e l = omega (arith, e, l)
