-- Kept traces have one text of each row of their report, and of the report on the slowest of them.
use Rattle.std.proofs.Common.{◌≡◌, ℕ, ◌<◌, ◌≤◌, Bool, true, false, cond, List, [], ◌∷◌, ◌++◌, length, map, refl, sym, ◌∙◌, ap, subst, arith, inl, inr, codes, decimal}
use Rattle.std.specs.Prelude.{nat_le, nat_lt, count_by, sum_by}
use Rattle.std.proofs.lemmas.Bool.{cases_lt, false≢true, leb-true, lt-ltb}
use Rattle.std.proofs.lemmas.List.Elements.{All-contains}
use Rattle.std.proofs.lemmas.List.Sums.{sum_by-le-sum_by}
use Rattle.trace_rules.specs.Numbers.{AreFigures, IsGreatest, IsMedian, OrZero}
use Rattle.trace_rules.specs.ReportRows.{AreFiguresOf}
use Rattle.trace_rules.specs.declared.figures.Figures.{Figures}
use Rattle.segment_names.specs.Known.{same_name}
use Rattle.session_rules.specs.KeptTraces.{Kept, by_kept, latencies_of}
use Rattle.session_rules.specs.ReportTexts.{IsLatencyText, IsReportHead, IsSegmentText, named_row, numbers_of}
use Rattle.session_rules.specs.TailTexts.{IsTailHead, IsTailText}
use Rattle.trace_paths.specs.PathLaws.{PathsAreOne}
use Rattle.trace_rules.specs.ReportRows.{AreSlowAndRest}
use Rattle.trace_rules.specs.SlowTraces.{IsFloor, rest_of, slow_count, slow_of}
use Rattle.text_rows.specs.Rows.{figure, row_of}
use Rattle.trace_rules.specs.Durations.{durations_of, path_length}
use Rattle.trace_types.specs.Parts.{segments_of}
use Rattle.trace_types.specs.Segments.{SegmentName}
use Rattle.trace_types.specs.declared.segment.Segment.{Segment}

-- ---- figures

-- where a median is less than another number, more than half of the list is below that number
below_counted : (numbers : List ℕ) (m n : ℕ) → m < n → count_by (λ x. nat_le x m) numbers ≤ count_by (λ x. nat_lt x n) numbers
below_counted numbers m n less = sum_by-le-sum_by (λ x. cond (nat_le x m) 1 0) (λ x. cond (nat_lt x n) 1 0) numbers
    (λ x. one (nat_le x m) (nat_lt x n) (λ e. lt-ltb x n (let le = leb-true x m e in omega arith)))
  where
    one : (a b : Bool) → (a ≡ true → b ≡ true) → cond a 1 0 ≤ cond b 1 0
    one true true h = omega arith
    one true false h = absurd (false≢true (h refl))
    one false b h = omega arith

median_least : (numbers : List ℕ) (m n : ℕ) → IsMedian numbers m → IsMedian numbers n → n ≤ m
median_least numbers m n h k = elim (cases_lt m n) [
  | inl less ↦ absurd (omega (arith, below_counted numbers m n less, h.at_most, k.less))
  | inr le ↦ le
]

median_one : (numbers : List ℕ) (m n : ℕ) → IsMedian numbers m → IsMedian numbers n → m ≡ n
median_one numbers m n h k = omega (arith, median_least numbers m n h k, median_least numbers n m k h)

greatest_one : (numbers : List ℕ) (m n : ℕ) → IsGreatest numbers m → IsGreatest numbers n → m ≡ n
greatest_one numbers m n h k = omega (arith, All-contains (λ (x : ℕ). x ≤ m) numbers n h.none_greater k.member, All-contains (λ (x : ℕ). x ≤ n) numbers m k.none_greater h.member)

or_zero_one : (Is : List ℕ → ℕ → Type 0) → ((xs : List ℕ) (m n : ℕ) → Is xs m → Is xs n → m ≡ n) → (numbers : List ℕ) (m n : ℕ) → OrZero Is numbers m → OrZero Is numbers n → m ≡ n
or_zero_one Is one [] m n h k = h ∙ sym k
or_zero_one Is one (x ∷ xs) m n h k = one (x ∷ xs) m n h k

numbers_one : (numbers : List ℕ) (f g : Figures) → AreFigures numbers f → AreFigures numbers g → numbers_of f ≡ numbers_of g
numbers_one numbers f g h k =
    ap (λ (x : ℕ). x ∷ f.sum ∷ f.median ∷ f.greatest ∷ []) (h.count ∙ sym k.count)
    ∙ ap (λ (x : ℕ). g.count ∷ x ∷ f.median ∷ f.greatest ∷ []) (h.sum ∙ sym k.sum)
    ∙ ap (λ (x : ℕ). g.count ∷ g.sum ∷ x ∷ f.greatest ∷ []) (or_zero_one IsMedian median_one numbers f.median g.median h.median k.median)
    ∙ ap (λ (x : ℕ). g.count ∷ g.sum ∷ g.median ∷ x ∷ []) (or_zero_one IsGreatest greatest_one numbers f.greatest g.greatest h.greatest k.greatest)

floor_one : (numbers : List ℕ) (m n : ℕ) → IsFloor numbers m → IsFloor numbers n → m ≡ n
floor_one [] m n h k = h ∙ sym k
floor_one (x ∷ xs) m n h k = omega (arith, All-contains (λ (y : ℕ). m ≤ y) (x ∷ xs) n h.none_less k.member, All-contains (λ (y : ℕ). n ≤ y) (x ∷ xs) m k.none_less h.member)

-- ---- rows

pub latencies_one : (kept : List Kept) (t u : List ℕ) → IsLatencyText kept t → IsLatencyText kept u → t ≡ u
latencies_one kept t u h k = h.text ∙ ap (λ (ns : List ℕ). row_of (codes "latency" ∷ map decimal ns)) (numbers_one (latencies_of kept) h.figures k.figures h.told k.told) ∙ sym k.text

pub tail_head_one : (kept : List Kept) (t u : List ℕ) → IsTailHead kept t → IsTailHead kept u → t ≡ u
tail_head_one kept t u h k =
    h.text ∙ ap (λ (n : ℕ). row_of (codes "tail" ∷ figure (codes "traces") (length kept) ∷ figure (codes "slow") (slow_count (length kept)) ∷ figure (codes "floor") n ∷ []))
    (floor_one (slow_of (latencies_of kept) (latencies_of kept)) h.floor k.floor h.least k.least) ∙ sym k.text

module _ (Excludes : SegmentName → SegmentName → Type 0) (paths : PathsAreOne by_kept Excludes) where
  pub report_head_one : (kept : List Kept) (t u : List ℕ) → IsReportHead Excludes kept t → IsReportHead Excludes kept u → t ≡ u
  report_head_one kept t u h k =
      h.text ∙ ap (λ (ps : List (List Segment)). row_of (codes "report" ∷ figure (codes "traces") (length kept) ∷ figure (codes "critical") (sum_by (path_length by_kept) ps) ∷ []))
      (paths kept h.paths k.paths h.critical_paths k.critical_paths) ∙ sym k.text

  pub segment_one : (kept : List Kept) (name : SegmentName) (t u : List ℕ) → IsSegmentText Excludes kept name t → IsSegmentText Excludes kept name u → t ≡ u
  segment_one kept name t u h k = h.text ∙ ap (named_row (codes "segment") name) figures ∙ sym k.text
    where
      row : AreFiguresOf by_kept same_name kept k.paths name h.figures h.on_path h.on_path_sum
      row = subst (λ (ps : List (List Segment)). AreFiguresOf by_kept same_name kept ps name h.figures h.on_path h.on_path_sum) (paths kept h.paths k.paths h.critical_paths k.critical_paths) h.told

      figures : numbers_of h.figures ++ (h.on_path ∷ h.on_path_sum ∷ []) ≡ numbers_of k.figures ++ (k.on_path ∷ k.on_path_sum ∷ [])
      figures =
          ap (λ (ns : List ℕ). ns ++ (h.on_path ∷ h.on_path_sum ∷ [])) (numbers_one (durations_of by_kept same_name name (segments_of by_kept kept)) h.figures k.figures row.figures k.told.figures)
          ∙ ap (λ (n : ℕ). numbers_of k.figures ++ (n ∷ h.on_path_sum ∷ [])) (row.on_path ∙ sym k.told.on_path)
          ∙ ap (λ (n : ℕ). numbers_of k.figures ++ (k.on_path ∷ n ∷ [])) (row.on_path_sum ∙ sym k.told.on_path_sum)

  pub tail_one : (kept : List Kept) (name : SegmentName) (t u : List ℕ) → IsTailText Excludes kept name t → IsTailText Excludes kept name u → t ≡ u
  tail_one kept name t u h k = h.text ∙ ap (named_row (codes "segment") name) figures ∙ sym k.text
    where
      row : AreSlowAndRest by_kept same_name (slow_of (latencies_of kept) k.paths) (rest_of (latencies_of kept) k.paths) name h.slow_on h.slow_sum h.rest_on h.rest_sum
      row = subst (λ (ps : List (List Segment)). AreSlowAndRest by_kept same_name (slow_of (latencies_of kept) ps) (rest_of (latencies_of kept) ps) name h.slow_on h.slow_sum h.rest_on h.rest_sum) (paths kept h.paths k.paths h.critical_paths k.critical_paths) h.told

      figures : h.slow_on ∷ h.slow_sum ∷ h.rest_on ∷ h.rest_sum ∷ [] ≡ k.slow_on ∷ k.slow_sum ∷ k.rest_on ∷ k.rest_sum ∷ []
      figures =
          ap (λ (n : ℕ). n ∷ h.slow_sum ∷ h.rest_on ∷ h.rest_sum ∷ []) (row.slow_on ∙ sym k.told.slow_on)
          ∙ ap (λ (n : ℕ). k.slow_on ∷ n ∷ h.rest_on ∷ h.rest_sum ∷ []) (row.slow_sum ∙ sym k.told.slow_sum)
          ∙ ap (λ (n : ℕ). k.slow_on ∷ k.slow_sum ∷ n ∷ h.rest_sum ∷ []) (row.rest_on ∙ sym k.told.rest_on)
          ∙ ap (λ (n : ℕ). k.slow_on ∷ k.slow_sum ∷ k.rest_on ∷ n ∷ []) (row.rest_sum ∙ sym k.told.rest_sum)
