-- What rows name is there: names and tasks by their places, and the first trace that refutes.
use Rattle.std.proofs.Common.{◌≡◌, ℕ, ◌+◌, ◌<◌, ◌==◌, ◌&&◌, Bool, true, false, not, cond, Some, List, [], ◌∷◌, length, map, All, count_by, refl, sym, ap, ◌∙◌, subst, arith, nat_lt, slice_index}
use Rattle.std.proofs.lemmas.Bool.Decides.{nat_tests}
use Rattle.std.proofs.lemmas.List.Elements.{All-weaker}
use Rattle.std.proofs.lemmas.List.Sums.{sum_by-cons}
use Rattle.std.proofs.lemmas.Option.{slice_get_within}
use Rattle.evidence_laws.specs.FirstLaws.{FirstBothIsFirst, FirstEarlyIsFirst}
use Rattle.evidence_laws.specs.ModelLaws.{TellsSame}
use Rattle.evidence_rules.specs.EvidenceRows.{AreRows, Rows, are_few, is_exclusion, is_nearly_exclusion, is_nearly_order, is_nearly_pipe, is_order, is_pipe}
use Rattle.evidence_rules.specs.Meetings.{AreMeetingFigures, meetings_from}
use Rattle.evidence_rules.specs.Sharings.{AreSharings, first_true}
use Rattle.evidence_rules.specs.declared.between.Between.{Between}
use Rattle.evidence_rules.specs.declared.choice.Choice.{Choice}
use Rattle.evidence_rules.specs.declared.pair_row.PairRow.{PairRow}
use Rattle.evidence_rules.specs.declared.sharing.Sharing.{Sharing}
use Rattle.evidence_text.specs.Naming.{AreNamed, AreRowsNamed, AreTasksNamed}
use Rattle.evidence_text.specs.declared.naming.Naming.{Naming}
use Rattle.name_rows.specs.declared.kind.NameKind.TheVariants as name_kind
use Rattle.task_rows.specs.declared.kind.TaskKind.TheVariants as task_kind
use Rattle.trace_types.specs.Parts.{by_number}
use Rattle.trace_types.specs.declared.named_trace.NamedTrace.{NamedTrace}
use Rattle.trace_types.proofs.ComparingLemmas.{nat_means, nat_own}
use Rattle.trace_types.proofs.TruthLemmas.{both_hold}
use Rattle.trace_types.proofs.ZipLemmas.{zip_length}
use Rattle.evidence_printing.proofs.TableLemmas.{AreFiguresAt, AreSharingsAt}
use Rattle.evidence_printing.proofs.RowLemmas.{IsToldRow, name_rows_told, order_rows_told, task_rows_told}

-- the test of two numbers
pub same_numbers : TellsSame (λ (m n : ℕ). m == n)
same_numbers a b = (nat_means a b, λ e. subst (λ (n : ℕ). (a == n) ≡ true) e (nat_own a))

-- few are some
few_some : (refuted traces : ℕ) → are_few refuted traces ≡ true → 0 < refuted
few_some refuted traces e = let l = (both_hold (nat_lt 0 refuted) _ e).0 in grind (arith, nat_tests)

-- the first that is true stands within
first_within : (vs : List Bool) → 0 < count_by (λ (v : Bool). v) vs → first_true vs < length vs
first_within [] l = absurd (omega (arith, l))
first_within (true ∷ vs) l = omega arith
first_within (false ∷ vs) l =
    let e = sum_by-cons (λ (v : Bool). cond v 1 0) false vs in
    let s = first_within vs (omega (arith, l, e)) in
    omega (arith, s)

module _ (choice : Choice) (traces : List NamedTrace) (names tasks : List ℕ) (rows : Rows) (n : Naming) (between : ℕ → ℕ → Between) (sharing : ℕ → ℕ → Sharing) (met_at : AreFiguresAt traces names between) (shared_at : AreSharingsAt traces tasks sharing) (are : AreRows choice (length names) (length tasks) between sharing rows)
    (many_names : length n.names.now ≡ length names) (many_tasks : length n.tasks.now ≡ length tasks) (many : length n.traces.now ≡ length traces)
    (early_first : FirstEarlyIsFirst by_number (λ (a b : ℕ). a == b)) (both_first : FirstBothIsFirst by_number (λ (a b : ℕ). a == b)) where
  -- the figures of a row
  met : (row : PairRow Between) → row.first < length names → row.second < length names → row.figures ≡ between row.first row.second
      → AreMeetingFigures (meetings_from by_number (λ (a b : ℕ). a == b) (slice_index names row.first) (slice_index names row.second) 0 traces) row.figures
  met row lf ls e = subst (AreMeetingFigures (meetings_from by_number (λ (a b : ℕ). a == b) (slice_index names row.first) (slice_index names row.second) 0 traces)) (sym e) (met_at row.first row.second lf ls)

  order_named : (row : PairRow Between) → IsToldRow between is_order (length names) row → AreNamed n name_kind.Order row
  order_named row r = record { first = subst (λ (k : ℕ). row.first < k) (sym many_names) r.first; second = subst (λ (k : ℕ). row.second < k) (sym many_names) r.second; trace = tt }

  exclusion_named : (row : PairRow Between) → IsToldRow between is_exclusion (length names) row → AreNamed n name_kind.Exclusion row
  exclusion_named row r = record { first = subst (λ (k : ℕ). row.first < k) (sym many_names) r.first; second = subst (λ (k : ℕ). row.second < k) (sym many_names) r.second; trace = tt }

  nearly_order_named : (row : PairRow Between) → IsToldRow between is_nearly_order (length names) row → AreNamed n name_kind.NearlyOrder row
  nearly_order_named row r =
      let some = few_some row.figures.early row.figures.traces (both_hold (not (row.first == row.second)) _ r.told).1 in
      let first = early_first same_numbers traces (slice_index names row.first) (slice_index names row.second) row.figures (met row r.first r.second r.figures_are) some in
      record {
        first = subst (λ (k : ℕ). row.first < k) (sym many_names) r.first;
        second = subst (λ (k : ℕ). row.second < k) (sym many_names) r.second;
        trace = subst (λ (k : ℕ). row.figures.first_early < k) (sym many) (slice_get_within traces row.figures.first_early first.trace first.at);
      }

  nearly_exclusion_named : (row : PairRow Between) → IsToldRow between is_nearly_exclusion (length names) row → AreNamed n name_kind.NearlyExclusion row
  nearly_exclusion_named row r =
      let some = few_some row.figures.both row.figures.traces (both_hold (nat_lt row.first row.second) _ r.told).1 in
      let first = both_first same_numbers traces (slice_index names row.first) (slice_index names row.second) row.figures (met row r.first r.second r.figures_are) some in
      record {
        first = subst (λ (k : ℕ). row.first < k) (sym many_names) r.first;
        second = subst (λ (k : ℕ). row.second < k) (sym many_names) r.second;
        trace = subst (λ (k : ℕ). row.figures.first_both < k) (sym many) (slice_get_within traces row.figures.first_both first.trace first.at);
      }

  pipe_named : (row : PairRow Sharing) → IsToldRow sharing is_pipe (length tasks) row → AreTasksNamed n task_kind.Pipe row
  pipe_named row r = record { first = subst (λ (k : ℕ). row.first < k) (sym many_tasks) r.first; second = subst (λ (k : ℕ). row.second < k) (sym many_tasks) r.second; trace = tt }

  nearly_pipe_named : (row : PairRow Sharing) → IsToldRow sharing is_nearly_pipe (length tasks) row → AreTasksNamed n task_kind.NearlyPipe row
  nearly_pipe_named row r =
      let some = few_some row.figures.refuted row.figures.traces (both_hold (not (row.first == row.second)) _ r.told).1 in
      let figures = subst (AreSharings by_number traces (slice_index tasks row.first) (slice_index tasks row.second)) (sym r.figures_are) (shared_at row.first row.second r.first r.second) in
      let within = first_within figures.refuted (subst (λ (k : ℕ). 0 < k) figures.refuted_are some) in
      let long = zip_length _ traces figures.refuted figures.refute in
      record {
        first = subst (λ (k : ℕ). row.first < k) (sym many_tasks) r.first;
        second = subst (λ (k : ℕ). row.second < k) (sym many_tasks) r.second;
        trace = let e = figures.first in omega (arith, e, within, long, many);
      }

  pub rows_named : AreRowsNamed n rows
  rows_named = record {
    orders = All-weaker _ _ order_named rows.orders (order_rows_told choice (length names) between rows.orders are.orders);
    exclusions = All-weaker _ _ exclusion_named rows.exclusions (name_rows_told choice (length names) between is_exclusion rows.exclusions are.exclusions);
    pipes = All-weaker _ _ pipe_named rows.pipes (task_rows_told choice (length tasks) sharing is_pipe rows.pipes are.pipes);
    nearly_orders = All-weaker _ _ nearly_order_named rows.nearly_orders (name_rows_told choice (length names) between is_nearly_order rows.nearly_orders are.nearly_orders);
    nearly_exclusions = All-weaker _ _ nearly_exclusion_named rows.nearly_exclusions (name_rows_told choice (length names) between is_nearly_exclusion rows.nearly_exclusions are.nearly_exclusions);
    nearly_pipes = All-weaker _ _ nearly_pipe_named rows.nearly_pipes (task_rows_told choice (length tasks) sharing is_nearly_pipe rows.nearly_pipes are.nearly_pipes);
  }
