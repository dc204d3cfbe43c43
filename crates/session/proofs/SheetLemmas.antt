-- Sheets and watch lines of the traces of a batch, from the traces of each day.
use Rattle.std.proofs.Common.{◌≡◌, ℕ, zero, suc, ◌<◌, ◌==◌, List, [], ◌∷◌, length, map, get_or, All, AllPairs, Contains, refl, sym, ap, ◌∙◌, subst, arith}
use Rattle.std.proofs.lemmas.List.Elements.{All-nil, All-cons, All-head, All-tail, All-weaker, All-filter, All-contains_itself}
use Rattle.std.specs.List.{AllZip}
use Rattle.std.specs.Ordering.{nat_cmp}
use Rattle.std.specs.declared.cmp.Ordering.TheVariants.{Less}
use Rattle.batch_sheets.specs.Recorded.{AreLinesOfDay, AreRecorded, IsSheetOfDay}
use Rattle.batch_sheets.specs.Splitting.{AreSplit, named_day, split_day}
use Rattle.batch_sheets.specs.declared.days.DayTraces.{DayTraces}
use Rattle.batch_sheets.specs.declared.recording.DayLines.{DayLines}
use Rattle.day_partitions.specs.Books.{AreOfDay, IsSheetOf}
use Rattle.day_partitions.specs.declared.dated_sheet.DatedSheet.{DatedSheet}
use Rattle.book_laws.specs.Shown.{AreShown, IsShown, named_on}
use Rattle.refute_tests.specs.Clearing.{HaveNamesBelow}
use Rattle.segment_names.specs.Known.{Known}
use Rattle.segment_names.specs.Limits.{IsKept}
use Rattle.session_rules.specs.KeptTraces.{Kept, day_of, traces_on}
use Rattle.trace_types.specs.Listing.{ListsExactly}
use Rattle.trace_types.specs.declared.named_trace.NamedTrace.{NamedTrace}
use Rattle.book_laws.specs.TextBounds.{WatchLinesAreToldByText}
use Rattle.trace_types.proofs.ComparingLemmas.{less_means}
use Rattle.book_laws.proofs.SheetLemmas.{named_of}
use Rattle.trace_types.proofs.ZipLemmas.{zip_filter, zip_mapped}
use Rattle.session.specs.Sheets.{AreLinesOn, AreSheets}

-- ---- lists place by place
-- ---- the order of numbers
-- ---- sheets of the days
abbrev pub sheet_day : DatedSheet → ℕ
sheet_day s = s.day

pub day_there : (sheets : List DatedSheet) (i : ℕ) (d : DatedSheet) (e : ℕ) → i < length sheets → get_or (map sheet_day sheets) i e ≡ (get_or sheets i d).day
day_there [] i d e l = absurd (omega (arith, l))
day_there (s ∷ ss) zero d e l = refl
day_there (s ∷ ss) (suc i) d e l = day_there ss i d e (omega (arith, l))

pub length_days : (sheets : List DatedSheet) → length (map sheet_day sheets) ≡ length sheets
length_days [] = refl
length_days (s ∷ ss) = ap suc (length_days ss)

rising_sheets : (sheets : List DatedSheet) (days : List ℕ) → map sheet_day sheets ≡ days → AllPairs (λ x y. nat_cmp x y ≡ Less) days → AllPairs (λ (r s : DatedSheet). r.day < s.day) sheets
rising_sheets sheets days same p i j d l m =
    let q : AllPairs (λ x y. nat_cmp x y ≡ Less) (map sheet_day sheets) = subst (AllPairs (λ x y. nat_cmp x y ≡ Less)) (sym same) p in
    let less = less_means (get_or (map sheet_day sheets) i 0) (get_or (map sheet_day sheets) j 0) (q i j 0 l (omega (arith, m, length_days sheets))) in
    let a = day_there sheets i d 0 (omega (arith, l, m)) in
    let b = day_there sheets j d 0 m in
    omega (arith, less, a, b)

abbrev HasThose : List NamedTrace → DayTraces → Type 0
HasThose named s = s.traces.items ≡ named_on s.day named

abbrev IsOne : ℕ → List NamedTrace → DatedSheet → Type 0
IsOne names named s = (s.sheet.traces ≡ named_on s.day named) × (0 < length s.sheet.traces) × IsSheetOf names s.day s.sheet

one_sheet : (names : ℕ) (named : List NamedTrace) (split : DayTraces) (s : DatedSheet) → IsSheetOfDay names split s → HasThose named split → 0 < length split.traces.items → All (HaveNamesBelow names) named → IsOne names named s
one_sheet names named split s h those some below =
    let own : s.sheet.traces ≡ named_on s.day named = h.traces ∙ those ∙ ap (λ d. named_on d named) (sym h.day) in
    let long = ap length h.traces in
    let more : 0 < length s.sheet.traces = omega (arith, long, some) in (
      own,
      more,
      record {
        width = h.width;
        some = more;
        dated = subst (AreOfDay s.day) (sym own) (named_of s.day named);
        named = subst (All (HaveNamesBelow names)) (sym own) (All-filter (λ (t : NamedTrace). t.day == s.day) (HaveNamesBelow names) named below);
      },
    )

all_sheets : (names : ℕ) (named : List NamedTrace) (split : List DayTraces) (sheets : List DatedSheet) → AllZip (IsSheetOfDay names) split sheets → All (HasThose named) split → All (λ (s : DayTraces). 0 < length s.traces.items) split → All (HaveNamesBelow names) named → All (IsOne names named) sheets
all_sheets names named [] [] z h n b = All-nil (IsOne names named)
all_sheets names named [] (s ∷ ss) z h n b = absurd z
all_sheets names named (d ∷ ds) [] z h n b = absurd z
all_sheets names named (d ∷ ds) (s ∷ ss) z h n b = All-cons (IsOne names named) s ss
    (one_sheet names named d s z.0 (All-head (HasThose named) d ds h) (All-head (λ (r : DayTraces). 0 < length r.traces.items) d ds n) b)
    (all_sheets names named ds ss z.1 (All-tail (HasThose named) d ds h) (All-tail (λ (r : DayTraces). 0 < length r.traces.items) d ds n) b)

same_days : (names : ℕ) (split : List DayTraces) (sheets : List DatedSheet) → AllZip (IsSheetOfDay names) split sheets → map split_day split ≡ map sheet_day sheets
same_days names split sheets z = zip_mapped (IsSheetOfDay names) split_day sheet_day (λ d s h. sym h.day) split sheets z

-- ---- watch lines of the days
one_day : (law : WatchLinesAreToldByText) (known : Known) (every workers : ℕ) (named : List NamedTrace) (kept : List Kept) → IsKept known → AreShown known named kept → 0 < workers
    → (split : DayTraces) (w : DayLines) → AreLinesOfDay every workers split w → HasThose named split → AreLinesOn every workers kept split.day w
one_day law known every workers named kept k shown some split w h those = record {
  same = h.day;
  lines = law known every workers split.traces.items (traces_on split.day kept) w.lines k
      (subst (λ ts. AreShown known ts (traces_on split.day kept)) (sym those) (zip_filter (IsShown known) (λ (t : NamedTrace). t.day == split.day) (λ t. day_of t == split.day) (λ t u r. ap (λ d. d == split.day) r.day) named kept shown))
      some h.lines;
}

all_days : (law : WatchLinesAreToldByText) (known : Known) (every workers : ℕ) (named : List NamedTrace) (kept : List Kept) → IsKept known → AreShown known named kept → 0 < workers
    → (split : List DayTraces) (watched : List DayLines) → AllZip (AreLinesOfDay every workers) split watched → All (HasThose named) split → AllZip (AreLinesOn every workers kept) (map split_day split) watched
all_days law known every workers named kept k shown some [] [] z h = z
all_days law known every workers named kept k shown some [] (w ∷ ws) z h = absurd z
all_days law known every workers named kept k shown some (d ∷ ds) [] z h = absurd z
all_days law known every workers named kept k shown some (d ∷ ds) (w ∷ ws) z h = (
  one_day law known every workers named kept k shown some d w z.0 (All-head (HasThose named) d ds h),
  all_days law known every workers named kept k shown some ds ws z.1 (All-tail (HasThose named) d ds h),
)

pub recorded_sheets : (law : WatchLinesAreToldByText) (known : Known) (every workers : ℕ) (named : List NamedTrace) (kept : List Kept) (days : List ℕ) (split : List DayTraces) (sheets : List DatedSheet) (watched : List DayLines)
    → IsKept known → AreShown known named kept → All (HaveNamesBelow (length known.names)) named → 0 < workers → ListsExactly nat_cmp (Contains (map named_day named)) days → AreSplit days named split → AreRecorded (length known.names) every workers split sheets watched
    → AreSheets known workers every kept sheets watched
recorded_sheets law known every workers named kept days split sheets watched k shown below some lists parts recorded =
    let names = length known.names in
    let each = all_sheets names named split sheets recorded.all_sheets parts.so_far.each_list parts.some below in
    let own_days : map sheet_day sheets ≡ days = sym (same_days names split sheets recorded.all_sheets) ∙ parts.so_far.each_day in
    let same : map named_day named ≡ map day_of kept = zip_mapped (IsShown known) named_day day_of (λ t u r. r.day) named kept shown in
    record {
      named = named;
      shown = shown;
      parts = record {
        rising = rising_sheets sheets days own_days lists.rising;
        each = All-weaker (IsOne names named) (λ (s : DatedSheet). s.sheet.traces ≡ named_on s.day named) (λ s h. h.0) sheets each;
        some = All-weaker (IsOne names named) (λ (s : DatedSheet). 0 < length s.sheet.traces) (λ s h. h.1) sheets each;
        all = All-from named (λ t c. subst (λ l. Contains l t.day) (sym own_days) ((lists.exactly t.day).1 (has_day named t c)));
      };
      fit = All-weaker (IsOne names named) (λ (s : DatedSheet). IsSheetOf names s.day s.sheet) (λ s h. h.2) sheets each;
      days = days;
      days_are = subst (λ l. ListsExactly nat_cmp (Contains l) days) same lists;
      lines = subst (λ l. AllZip (AreLinesOn every workers kept) l watched) parts.so_far.each_day (all_days law known every workers named kept k shown some split watched recorded.all_lines parts.so_far.each_list);
    }
  where
    has_day : (ts : List NamedTrace) (t : NamedTrace) → Contains ts t → Contains (map named_day ts) t.day
    has_day [] t (i, l, e) = absurd (omega (arith, l))
    has_day (u ∷ ts) t (zero, l, e) = (0, omega arith, ap named_day e)
    has_day (u ∷ ts) t (suc i, l, e) = let c = has_day ts t (i, omega (arith, l), e) in (suc c.0, omega (arith, c.1), c.2)

    All-from : (ts : List NamedTrace) → ((t : NamedTrace) → Contains ts t → Contains (map sheet_day sheets) t.day) → All (λ (t : NamedTrace). Contains (map sheet_day sheets) t.day) ts
    All-from ts f = All-weaker (Contains ts) (λ (t : NamedTrace). Contains (map sheet_day sheets) t.day) f ts (All-contains_itself ts)
