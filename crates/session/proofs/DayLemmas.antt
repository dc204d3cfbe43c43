-- How many days there would be with those of named traces, before any is recorded.
use Rattle.std.proofs.Common.{◌≡◌, ℕ, suc, ◌^◌, ◌+◌, ◌<◌, ◌≤◌, List, [], ◌∷◌, length, map, get_or, All, Contains, refl, sym, ap, subst, arith, length-append}
use Rattle.std.specs.Ordering.{nat_cmp}
use Rattle.std.specs.declared.cmp.Ordering.TheVariants.{Less}
use Rattle.std.proofs.lemmas.Cmp.{ranked}
use Rattle.std.proofs.lemmas.List.{length-map, get_or-map}
use Rattle.std.proofs.lemmas.List.Elements.{All-nil, All-cons, All-head, All-tail, All-weaker, All-contains_itself}
use Rattle.std.proofs.lemmas.List.Sums.{sum_by-cons}
use Rattle.batch_sheets.specs.Splitting.{named_day, sheet_day}
use Rattle.day_partitions.specs.Batches.{new_days, trace_count}
use Rattle.day_partitions.specs.Books.{BookState, HasTraces, IsBook, KeptDay, all_traces}
use Rattle.day_partitions.specs.declared.dated_sheet.DatedSheet.{DatedSheet}
use Rattle.book_laws.specs.BookLaws.{AreSheetsOf}
use Rattle.book_laws.specs.Shown.{named_on}
use Rattle.trace_types.specs.Listing.{ListsExactly}
use Rattle.trace_types.specs.declared.named_trace.NamedTrace.{NamedTrace}
use Rattle.batch_sheets.proofs.DayLemmas.{on_some, all_in}
use Rattle.session.specs.inner.AddSteps.{HasRoom, LacksRoom}
use Rattle.session.proofs.SplitLemmas.{sheets_few}

-- a sheet of the traces of a day, whose words are of no account
abbrev pub sheet_on : List NamedTrace → ℕ → DatedSheet
sheet_on named d = record { day = d; sheet = record { traces = named_on d named; words = [] } }

abbrev pub sheets_on : List NamedTrace → List ℕ → List DatedSheet
sheets_on named days = map (sheet_on named) days

same_days : (named : List NamedTrace) (ds : List ℕ) → map sheet_day (sheets_on named ds) ≡ ds
same_days named [] = refl
same_days named (d ∷ ds) = ap (λ l. d ∷ l) (same_days named ds)

abbrev HasThose : List NamedTrace → DatedSheet → Type 0
HasThose named s = s.sheet.traces ≡ named_on s.day named

each_on : (named : List NamedTrace) (ds : List ℕ) → All (HasThose named) (sheets_on named ds)
each_on named [] = All-nil (HasThose named)
each_on named (d ∷ ds) = All-cons (HasThose named) (sheet_on named d) (sheets_on named ds) refl (each_on named ds)

abbrev HasSome : DatedSheet → Type 0
HasSome s = 0 < length s.sheet.traces

some_on : (named : List NamedTrace) (ds : List ℕ) → All (λ d. Contains (map named_day named) d) ds → All HasSome (sheets_on named ds)
some_on named [] h = All-nil HasSome
some_on named (d ∷ ds) h = All-cons HasSome (sheet_on named d) (sheets_on named ds)
    (on_some d named (All-head (λ d. Contains (map named_day named) d) d ds h))
    (some_on named ds (All-tail (λ d. Contains (map named_day named) d) d ds h))

-- there are sheets of the named traces, one for each of their days
pub are_sheets : (named : List NamedTrace) (days : List ℕ) → ListsExactly nat_cmp (Contains (map named_day named)) days → AreSheetsOf (sheets_on named days) named
are_sheets named days lists = record {
  rising = λ i j d le l.
      let inside : j < length days = (let long = length-map days (sheet_on named) in omega (arith, l, long)) in
      let a = ap sheet_day (get_or-map (sheet_on named) days i 0 d (omega (arith, le, inside))) in
      let b = ap sheet_day (get_or-map (sheet_on named) days j 0 d inside) in
      let less = ranked (get_or days i 0) (get_or days j 0) Less (sym (lists.rising i j 0 le inside)) in
      below _ _ _ _ a b less;
  each = each_on named days;
  some = some_on named days (All-weaker (Contains days) (λ d. Contains (map named_day named) d) (λ d c. (lists.exactly d).0 c) days (All-contains_itself days));
  all = subst (λ ds. All (λ (t : NamedTrace). Contains ds t.day) named) (sym (same_days named days))
      (All-weaker (λ (t : NamedTrace). Contains (map named_day named) t.day) (λ (t : NamedTrace). Contains days t.day) (λ t c. (lists.exactly t.day).1 c) named (all_in named));
}
  where
    below : (x y u v : ℕ) → x ≡ u → y ≡ v → u < v → x < y
    below x y u v e f l = omega (arith, e, f, l)

-- ---- how many days there are
sheets_short : (sheets : List DatedSheet) → All HasSome sheets → length sheets ≤ trace_count sheets
sheets_short [] h = omega arith
sheets_short (s ∷ ss) h = more _ _ _ _ (sum_by-cons (λ (r : DatedSheet). length r.sheet.traces) s ss) (All-head HasSome s ss h) (sheets_short ss (All-tail HasSome s ss h))
  where
    more : (all one rest long : ℕ) → all ≡ one + rest → 0 < one → long ≤ rest → suc long ≤ all
    more all one rest long e l m = omega (arith, e, l, m)

kept_short : (ks : List KeptDay) → All HasTraces ks → length ks ≤ length (all_traces ks)
kept_short [] h = omega arith
kept_short (k ∷ ks) h = more _ _ _ _ (length-append k.traces (all_traces ks)) (All-head HasTraces k ks h) (kept_short ks (All-tail HasTraces k ks h))
  where
    more : (all one rest long : ℕ) → all ≡ one + rest → 0 < one → long ≤ rest → suc long ≤ all
    more all one rest long e l m = omega (arith, e, l, m)

-- the days of a book and those of named traces are fewer than 4,294,967,296
pub days_few : (b : BookState) (named : List NamedTrace) (days : List ℕ) → IsBook b → ListsExactly nat_cmp (Contains (map named_day named)) days → length (all_traces b.days) + length named < 2 ^ 32 → length b.days + length days < 2 ^ 32
days_few b named days book lists most =
    let parts = are_sheets named days lists in
    fits _ _ _ _ _ _ (kept_short b.days book.some) (sheets_short (sheets_on named days) parts.some) (sheets_few named (sheets_on named days) parts) (length-map days (sheet_on named)) most
  where
    fits : (kept all sheets count long days : ℕ) → kept ≤ all → sheets ≤ count → count ≤ long → sheets ≡ days → all + long < 2 ^ 32 → kept + days < 2 ^ 32
    fits kept all sheets count long days a b c e m = omega (arith, a, b, c, e, m)

-- where there would be too many days, the book has no room for those of the traces
pub lacks_room : (b : BookState) (named : List NamedTrace) (days : List ℕ) (count : ℕ) → IsBook b → ListsExactly nat_cmp (Contains (map named_day named)) days
    → ((sheets : List DatedSheet) → map sheet_day sheets ≡ days → count ≡ length b.days + new_days b.days sheets) → 64 < count → LacksRoom b named count
lacks_room b named days count book lists is many = record {
  book = book;
  sheets = sheets_on named days;
  parts = are_sheets named days lists;
  many = many;
  count = is (sheets_on named days) (same_days named days);
}

-- where there would not be, it has
pub has_room : (b : BookState) (named : List NamedTrace) (days : List ℕ) (count : ℕ) → IsBook b → ListsExactly nat_cmp (Contains (map named_day named)) days
    → ((sheets : List DatedSheet) → map sheet_day sheets ≡ days → count ≡ length b.days + new_days b.days sheets) → count ≤ 64 → HasRoom b named
has_room b named days count book lists is few = record {
  book = book;
  sheets = sheets_on named days;
  parts = are_sheets named days lists;
  room = let e = is (sheets_on named days) (same_days named days) in omega (arith, e, few);
}
