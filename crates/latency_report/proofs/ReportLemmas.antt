-- The report, from its tables.
use Rattle.std.proofs.Common.{◌≡◌, ◌↔◌, ℕ, suc, zero, ◌<◌, ◌≤◌, ◌^◌, Bool, true, false, cond, eqb, List, [], ◌∷◌, ◌++◌, map, length, All, Contains, arith, refl, ap, sym, ◌∙◌, subst, ⊎_elim}
use Rattle.std.specs.Borrow.{Bor}
use Rattle.std.specs.Prelude.{filter, sum}
use Rattle.std.proofs.lemmas.Bool.{cases_lt, eqb-true, eqb-false}
use Rattle.std.proofs.lemmas.List.{get_or_past, length-map}
use Rattle.std.proofs.lemmas.List.Elements.{All-nil, All-cons, All-append, All-head, All-tail, Contains-append_cases, Contains-append_right}
use Rattle.day_partitions.specs.Books.{all_traces}
use Rattle.kept_books.specs.KeptBooks.{IsKeptBook, KeptState, traces_in}
use Rattle.refute_tests.specs.Clearing.{HaveNamesBelow}
use Rattle.trace_paths.proofs.BookLemmas.{All-unmap, all_in_days}
use Rattle.trace_types.specs.declared.named_trace.NamedTrace.{NamedTrace}
use Rattle.trace_types.specs.NamedSegments.{number_of_name}
use Rattle.trace_types.specs.Parts.{by_number, segments_of}
use Rattle.trace_types.specs.SegmentLists.{NamesDiffer}
use Rattle.trace_paths.specs.NumberedPaths.{IsNamedPath}
use Rattle.trace_rules.specs.Durations.{duration}
use Rattle.trace_paths.specs.Tables.{IsTableOf}
use Rattle.trace_paths.proofs.PathTimeLemmas.{Seg, with_name, lasts, joined, once_each, time_each, segments_at, short_table}
use Rattle.latency_report.specs.declared.segment_row.SegmentRow.{SegmentRow}
use Rattle.latency_report.specs.inner.TableRows.{IsRowFrom}
use Rattle.trace_paths.specs.Tables.{list_at}
use Rattle.trace_rules.specs.Numbers.{AreFigures}
use Rattle.trace_rules.specs.ReportRows.{AreFiguresOf}

-- a name has a duration exactly where some segment has it
pub has_duration : (n : ℕ) (xs : List Seg) → (0 < length (lasts n xs)) ↔ Contains (map number_of_name xs) n
has_duration n [] = ((λ some. absurd (omega arith)), (λ (k, lt, e). absurd (omega arith)))
has_duration n (s ∷ xs) = go (has_duration n xs) (eqb s.name n) refl
  where
    go : ((0 < length (lasts n xs)) ↔ Contains (map number_of_name xs) n) → (b : Bool) → eqb s.name n ≡ b → (0 < length (lasts n (s ∷ xs))) ↔ Contains (map number_of_name (s ∷ xs)) n
    go told true e =
        let size : length (lasts n (s ∷ xs)) ≡ suc (length (lasts n xs)) = ap (λ (b : Bool). length (map (duration by_number) (cond b (s ∷ filter (with_name n) xs) (filter (with_name n) xs)))) e in
        ((λ some. (0, omega arith, eqb-true s.name n e)), (λ has. omega arith))
    go told false e =
        let size : length (lasts n (s ∷ xs)) ≡ length (lasts n xs) = ap (λ (b : Bool). length (map (duration by_number) (cond b (s ∷ filter (with_name n) xs) (filter (with_name n) xs)))) e in (
          (λ some. Contains-append_right (s.name ∷ []) (map number_of_name xs) n (told.0 (omega arith))),
          (λ has. ⊎_elim
              (λ (here : Contains (s.name ∷ []) n). absurd (alone here))
              (λ (there : Contains (map number_of_name xs) n). let p = told.1 there in omega arith)
              (Contains-append_cases (s.name ∷ []) (map number_of_name xs) n has)),
        )
      where
        alone : Contains (s.name ∷ []) n → ⊥
        alone (zero, lt, is) = eqb-false s.name n e is
        alone (suc k, lt, is) = omega arith

abbrev lists_at : List (Bor NamedTrace) → List (List Seg)
lists_at ts = map (λ (t : Bor NamedTrace). t.now.segments) ts

segments_joined : (ts : List (Bor NamedTrace)) → segments_at ts ≡ joined (lists_at ts)
segments_joined [] = refl
segments_joined (t ∷ ts) = ap (λ (l : List Seg). t.now.segments ++ l) (segments_joined ts)

lists_differ : (ts : List (Bor NamedTrace)) → All (NamesDiffer number_of_name) (lists_at ts)
lists_differ [] = All-nil (NamesDiffer number_of_name)
lists_differ (t ∷ ts) = All-cons (NamesDiffer number_of_name) t.now.segments (lists_at ts) t.now.names_differ (lists_differ ts)

pub segments_below : (names : ℕ) (ts : List (Bor NamedTrace)) → All (λ (t : Bor NamedTrace). HaveNamesBelow names t.now) ts → All (λ (s : Seg). s.name < names) (segments_at ts)
segments_below names [] below = All-nil (λ (s : Seg). s.name < names)
segments_below names (t ∷ ts) below =
    All-append (λ (s : Seg). s.name < names) t.now.segments (segments_at ts) (All-head (λ (x : Bor NamedTrace). HaveNamesBelow names x.now) t ts below)
    (segments_below names ts (All-tail (λ (x : Bor NamedTrace). HaveNamesBelow names x.now) t ts below))

pub short_traces : (names : ℕ) (ts : List (Bor NamedTrace)) (table : List (List ℕ)) → IsTableOf names (segments_at ts) table → length ts < 2 ^ 32 → All (λ (ns : List ℕ). length ns < 2 ^ 32) table
short_traces names ts table t few = short_table names (lists_at ts) (segments_at ts) table t (segments_joined ts) (lists_differ ts) (omega (arith, length-map ts (λ (x : Bor NamedTrace). x.now.segments)))

-- a row from the tables is a row of the name
pub row_of : (names : ℕ) (traces : List NamedTrace) (segments : List Seg) (paths : List (List Seg)) (durations on_paths : List (List ℕ)) (row : SegmentRow) → segments ≡ segments_of by_number traces
    → IsTableOf names segments durations → IsTableOf names (joined paths) on_paths → All (IsNamedPath names) paths → IsRowFrom durations on_paths row → AreFiguresOf by_number eqb traces paths row.name row.figures row.on_path row.on_path_sum
row_of names traces segments paths durations on_paths row is all steps named r =
    let many = all.count in
    let below = r.below in
    let lt : row.name < names = omega arith in
    record {
      figures = subst (λ (l : List ℕ). AreFigures l row.figures) (all.lists row.name lt ∙ ap (lasts row.name) is) r.figures;
      on_path = r.on_path ∙ (ap length (steps.lists row.name lt) ∙ once_each row.name paths (λ k d l. (named k d l).differ));
      on_path_sum = r.on_path_sum ∙ (ap sum (steps.lists row.name lt) ∙ time_each row.name paths);
    }

-- the names with a duration are those of the segments
pub durations_tell : (names : ℕ) (segments : List Seg) (durations : List (List ℕ)) → IsTableOf names segments durations → All (λ (s : Seg). s.name < names) segments → (n : ℕ) → (0 < length (list_at durations n)) ↔ Contains (map number_of_name segments) n
durations_tell names segments durations t below n = (
  (λ some. ⊎_elim
      (λ (lt : n < names). (has_duration n segments).0 (let l = ap length (t.lists n lt) in omega arith))
      (λ (past : names ≤ n). let none : length (list_at durations n) ≡ 0 = ap length (get_or_past durations n [] (let c = t.count in omega arith)) in absurd (omega arith))
      (cases_lt n names)),
  (λ has.
      let lt : n < names = name_below segments below has in
      let some = (has_duration n segments).1 has in
      let l = ap length (t.lists n lt) in
      omega arith),
)
  where
    name_below : (xs : List Seg) → All (λ (s : Seg). s.name < names) xs → Contains (map number_of_name xs) n → n < names
    name_below [] all (k, lt, e) = absurd (omega arith)
    name_below (s ∷ xs) all (zero, lt, e) = let l = All-head (λ (x : Seg). x.name < names) s xs all in let same : s.name ≡ n = e in omega arith
    name_below (s ∷ xs) all (suc k, lt, e) = name_below xs (All-tail (λ (x : Seg). x.name < names) s xs all) (k, omega arith, e)

-- the traces of a book, as they are lent: their names are those of the book, and they are few
pub names_in_book : (k : KeptState) (ts : List (Bor NamedTrace)) → IsKeptBook k → map (λ (t : Bor NamedTrace). t.now) ts ≡ traces_in k → All (λ (t : Bor NamedTrace). HaveNamesBelow (length k.known.names) t.now) ts
names_in_book k ts kept are =
    All-unmap (HaveNamesBelow (length k.known.names)) (λ (t : Bor NamedTrace). t.now) ts
    (subst (All (HaveNamesBelow (length k.known.names))) (sym are) (subst (λ (n : ℕ). All (HaveNamesBelow n) (all_traces k.book.days)) kept.names (all_in_days (HaveNamesBelow k.book.names) k.book.days kept.book.named)))

pub few_in_book : (k : KeptState) (ts : List (Bor NamedTrace)) → IsKeptBook k → map (λ (t : Bor NamedTrace). t.now) ts ≡ traces_in k → length ts < 2 ^ 32
few_in_book k ts kept are =
    let most = kept.book.counted in
    omega (arith, most, ap length are, length-map ts (λ (t : Bor NamedTrace). t.now))
