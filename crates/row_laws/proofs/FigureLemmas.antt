-- The figures of a row are those of the two that it names.
use Rattle.std.proofs.Common.{◌≡◌, ℕ, ◌++◌, Bool, true, false, List, length, Contains, sym, subst, ⊎_elim}
use Rattle.std.proofs.lemmas.List.Elements.{Contains-append_cases}
use Rattle.segment_names.specs.Known.{same_name}
use Rattle.evidence_rules.specs.EvidenceRows.{AreBySupport, AreOrdersLeft, Listing, is_exclusion, is_nearly_exclusion, is_nearly_order, is_nearly_pipe, is_order, is_pipe, rows_where, supported}
use Rattle.evidence_rules.specs.Meetings.{AreMeetingFigures, meetings_from}
use Rattle.evidence_rules.specs.Sharings.{AreSharings}
use Rattle.evidence_rules.specs.declared.between.Between.{Between}
use Rattle.evidence_rules.specs.declared.choice.Choice.{Choice}
use Rattle.evidence_rules.specs.declared.pair_row.PairRow.{PairRow}
use Rattle.evidence_rules.specs.declared.sharing.Sharing.{Sharing}
use Rattle.session_rules.specs.EvidenceTexts.{IsEvidenceText}
use Rattle.session_rules.specs.KeptTraces.{Kept, by_kept}
use Rattle.row_laws.specs.RowFigures.{NameRowsAreMet, NameRowsCountTraces, TaskRowsAreShared, rows_of_names, rows_of_tasks}
use Rattle.row_laws.specs.TraceCounts.{FiguresCountTraces}
use Rattle.row_laws.proofs.KeptLemmas.{names_once, same_names}
use Rattle.row_laws.proofs.ModelLemmas.{between_traces, sharing_traces}
use Rattle.row_laws.proofs.PlaceLemmas.{left_from, listed_figures}
use Rattle.row_laws.proofs.SortedLemmas.{sorted_in}

-- the row has the figures of its places
abbrev Has : {F : Type 0} → (ℕ → ℕ → F) → PairRow F → Type 0
Has figures row = row.figures ≡ figures row.first row.second

sorted_has : {F : Type 0} (traces : F → ℕ) (figures : ℕ → ℕ → F) (is : Listing F) (count : ℕ) (rows : List (PairRow F)) → AreBySupport traces (rows_where figures is count) rows → (row : PairRow F) → Contains rows row → Has figures row
sorted_has traces figures is count rows are row c = listed_figures figures is count row (sorted_in (rows_where figures is count) traces rows are row c)

-- orders that are left are listed ones
left_in : (reduced : Bool) (rows left : List (PairRow Between)) → AreOrdersLeft reduced rows left → (row : PairRow Between) → Contains left row → Contains rows row
left_in true rows left are row c = left_from rows are.implied row (subst (λ (l : List (PairRow Between)). Contains l row) are.are c)
left_in false rows left are row c = subst (λ (l : List (PairRow Between)). Contains l row) are c

module _ (choice : Choice) (kept : List Kept) (bytes : List ℕ) (text : IsEvidenceText choice kept bytes) where
  names_has : (is : Listing Between) (rows : List (PairRow Between)) → AreBySupport between_traces (rows_where text.between (supported between_traces choice.least is) (length text.names)) rows → (row : PairRow Between) → Contains rows row → Has text.between row
  names_has is rows are row c = sorted_has between_traces text.between (supported between_traces choice.least is) (length text.names) rows are row c

  tasks_has : (is : Listing Sharing) (rows : List (PairRow Sharing)) → AreBySupport sharing_traces (rows_where text.sharing (supported sharing_traces choice.least is) (length text.tasks)) rows → (row : PairRow Sharing) → Contains rows row → Has text.sharing row
  tasks_has is rows are row c = sorted_has sharing_traces text.sharing (supported sharing_traces choice.least is) (length text.tasks) rows are row c

  orders_has : (row : PairRow Between) → Contains text.rows.orders row → Has text.between row
  orders_has row c =
      let all = rows_where text.between (supported between_traces choice.least is_order) (length text.names) in
      let d = sorted_in text.are.orders.left between_traces text.rows.orders text.are.orders.sorted row c in
      listed_figures text.between (supported between_traces choice.least is_order) (length text.names) row (left_in choice.reduced all text.are.orders.left text.are.orders.are_left row d)

  pub name_row_has : (row : PairRow Between) → Contains (rows_of_names text.rows) row → Has text.between row
  name_row_has row c = ⊎_elim (orders_has row)
      (λ (d : Contains (text.rows.exclusions ++ (text.rows.nearly_orders ++ text.rows.nearly_exclusions)) row). ⊎_elim
      (names_has is_exclusion text.rows.exclusions text.are.exclusions row)
      (λ (e : Contains (text.rows.nearly_orders ++ text.rows.nearly_exclusions) row). ⊎_elim
      (names_has is_nearly_order text.rows.nearly_orders text.are.nearly_orders row)
      (names_has is_nearly_exclusion text.rows.nearly_exclusions text.are.nearly_exclusions row)
      (Contains-append_cases text.rows.nearly_orders text.rows.nearly_exclusions row e))
      (Contains-append_cases text.rows.exclusions (text.rows.nearly_orders ++ text.rows.nearly_exclusions) row d))
      (Contains-append_cases text.rows.orders (text.rows.exclusions ++ (text.rows.nearly_orders ++ text.rows.nearly_exclusions)) row c)

  pub task_row_has : (row : PairRow Sharing) → Contains (rows_of_tasks text.rows) row → Has text.sharing row
  task_row_has row c = ⊎_elim
      (tasks_has is_pipe text.rows.pipes text.are.pipes row)
      (tasks_has is_nearly_pipe text.rows.nearly_pipes text.are.nearly_pipes row)
      (Contains-append_cases text.rows.pipes text.rows.nearly_pipes row c)

pub name_rows_met : NameRowsAreMet
name_rows_met choice kept bytes text row pair c named =
    subst (AreMeetingFigures (meetings_from by_kept same_name pair.0 pair.1 0 kept)) (sym (name_row_has choice kept bytes text row c)) (text.met row.first row.second pair.0 pair.1 named.0 named.1)

pub name_rows_count : FiguresCountTraces by_kept same_name → NameRowsCountTraces
name_rows_count counts choice kept bytes text row pair c named =
    counts same_names kept pair.0 pair.1 row.figures (names_once kept) (name_rows_met choice kept bytes text row pair c named)

pub task_rows_shared : TaskRowsAreShared
task_rows_shared choice kept bytes text row pair c named =
    subst (AreSharings by_kept kept pair.0 pair.1) (sym (task_row_has choice kept bytes text row c)) (text.shared row.first row.second pair.0 pair.1 named.0 named.1)
