-- What holds of all rows that are told holds of those that are printed.
use Rattle.std.proofs.Common.{◌≡◌, ℕ, ◌<◌, ◌&&◌, Bool, true, false, not, cond, Option, Some, List, [], ◌∷◌, length, get_or, slice_get, map, filter, flat_map, zip, All, refl, sym, ap, ◌∙◌, subst, arith}
use Rattle.std.specs.List.{range_with_len}
use Rattle.std.proofs.lemmas.List.{get_or-map, length-map}
use Rattle.std.proofs.lemmas.List.Elements.{All-cons, All-head, All-nil, All-tail, All-weaker}
use Rattle.evidence_rows.proofs.CountLemmas.{all_flat}
use Rattle.evidence_rules.specs.EvidenceRows.{AreBySupport, AreNameRows, AreOrderRows, AreOrdersLeft, AreReduced, AreTaskRows, Listing, is_order, rows_where, supported}
use Rattle.evidence_rules.specs.declared.between.Between.{Between}
use Rattle.evidence_rules.specs.declared.choice.Choice.{Choice}
use Rattle.evidence_rules.specs.declared.pair_row.PairRow.{PairRow}
use Rattle.evidence_rules.specs.declared.sharing.Sharing.{Sharing}
use Rattle.trace_types.proofs.ElementLemmas.{all_there}
use Rattle.trace_types.proofs.TruthLemmas.{both_hold}

-- ---- what is sorted, and what is left
module _ {F : Type 0} (P : PairRow F → Type 0) where
  pub all_sorted : (traces : F → ℕ) (rows sorted : List (PairRow F)) → AreBySupport traces rows sorted → All P rows → All P sorted
  all_sorted traces rows sorted is all = λ k d lt.
      let placed : ℕ × ℕ → Option (PairRow F) = λ x. slice_get rows x.1 in
      let long : length sorted ≡ length is.order = sym (length-map sorted (λ (r : PairRow F). Some r)) ∙ (ap length is.are ∙ length-map is.order placed) in
      let left : get_or (map (λ (r : PairRow F). Some r) sorted) k (Some d) ≡ Some (get_or sorted k d) = get_or-map (λ (r : PairRow F). Some r) sorted k d (Some d) lt in
      let right : get_or (map placed is.order) k (Some d) ≡ placed (get_or is.order k (0, 0)) = get_or-map placed is.order k (0, 0) (Some d) (omega (arith, lt, long)) in
      all_there P rows (get_or is.order k (0, 0)).1 (get_or sorted k d) all (sym right ∙ (ap (λ (l : List (Option (PairRow F))). get_or l k (Some d)) (sym is.are) ∙ left))

  all_left : (rows : List (PairRow F)) (vs : List Bool) → All P rows → All P (map (λ (x : PairRow F × Bool). x.0) (filter (λ (x : PairRow F × Bool). not x.1) (zip rows vs)))
  all_left [] vs all = All-nil P
  all_left (r ∷ rs) [] all = All-nil P
  all_left (r ∷ rs) (true ∷ vs) all = all_left rs vs (All-tail P r rs all)
  all_left (r ∷ rs) (false ∷ vs) all = All-cons P r (map (λ (x : PairRow F × Bool). x.0) (filter (λ (x : PairRow F × Bool). not x.1) (zip rs vs))) (All-head P r rs all) (all_left rs vs (All-tail P r rs all))

  all_reduced : (rows left : List (PairRow F)) → AreReduced rows left → All P rows → All P left
  all_reduced rows left is all = subst (All P) (sym is.are) (all_left rows is.implied all)

all_orders_left : (P : PairRow Between → Type 0) (reduced : Bool) (rows left : List (PairRow Between)) → AreOrdersLeft reduced rows left → All P rows → All P left
all_orders_left P true rows left is all = all_reduced P rows left is all
all_orders_left P false rows left is all = subst (All P) (sym is) all

-- ---- what is told
-- the places of a row are below the count, its figures are those of the two, and they tell it
pub record IsToldRow {F : Type 0} (figures : ℕ → ℕ → F) (is : Listing F) (count : ℕ) (row : PairRow F) : Type 0 where
  pub first : row.first < count
  pub second : row.second < count
  pub figures_are : row.figures ≡ figures row.first row.second
  pub told : is row.first row.second row.figures ≡ true

module _ {F : Type 0} (figures : ℕ → ℕ → F) (is : Listing F) (count : ℕ) where
  all_one : (a b : ℕ) → a < count → b < count → (q : Bool) → is a b (figures a b) ≡ q → All (IsToldRow figures is count) (cond q (record { first = a; second = b; figures = figures a b } ∷ []) [])
  all_one a b la lb true e = All-cons (IsToldRow figures is count) (record { first = a; second = b; figures = figures a b }) [] (record { first = la; second = lb; figures_are = refl; told = e }) (All-nil (IsToldRow figures is count))
  all_one a b la lb false e = All-nil (IsToldRow figures is count)

  pub all_told : All (IsToldRow figures is count) (rows_where figures is count)
  all_told = all_flat (IsToldRow figures is count) (λ a. flat_map (λ b. cond (is a b (figures a b)) (record { first = a; second = b; figures = figures a b } ∷ []) []) (range_with_len 0 count)) count
      (λ a la. all_flat (IsToldRow figures is count) (λ b. cond (is a b (figures a b)) (record { first = a; second = b; figures = figures a b } ∷ []) []) count
      (λ b lb. all_one a b la lb (is a b (figures a b)) refl))

-- what is told and supported is told
module _ {F : Type 0} (traces : F → ℕ) (least : ℕ) (figures : ℕ → ℕ → F) (is : Listing F) (count : ℕ) where
  all_supported : All (IsToldRow figures is count) (rows_where figures (supported traces least is) count)
  all_supported = All-weaker (IsToldRow figures (supported traces least is) count) (IsToldRow figures is count)
      (λ row r. record { first = r.first; second = r.second; figures_are = r.figures_are; told = (both_hold (is row.first row.second row.figures) _ r.told).0 })
      (rows_where figures (supported traces least is) count) (all_told figures (supported traces least is) count)

-- ---- the rows of each kind
pub name_rows_told : (choice : Choice) (names : ℕ) (between : ℕ → ℕ → Between) (is : Listing Between) (rows : List (PairRow Between)) → AreNameRows choice names between is rows → All (IsToldRow between is names) rows
name_rows_told choice names between is rows are =
    let told = rows_where between (supported (λ (f : Between). f.traces) choice.least is) names in
    all_sorted (IsToldRow between is names) (λ (f : Between). f.traces) told rows are (all_supported (λ (f : Between). f.traces) choice.least between is names)

pub task_rows_told : (choice : Choice) (tasks : ℕ) (sharing : ℕ → ℕ → Sharing) (is : Listing Sharing) (rows : List (PairRow Sharing)) → AreTaskRows choice tasks sharing is rows → All (IsToldRow sharing is tasks) rows
task_rows_told choice tasks sharing is rows are =
    let told = rows_where sharing (supported (λ (f : Sharing). f.traces) choice.least is) tasks in
    all_sorted (IsToldRow sharing is tasks) (λ (f : Sharing). f.traces) told rows are (all_supported (λ (f : Sharing). f.traces) choice.least sharing is tasks)

pub order_rows_told : (choice : Choice) (names : ℕ) (between : ℕ → ℕ → Between) (rows : List (PairRow Between)) → AreOrderRows choice names between rows → All (IsToldRow between is_order names) rows
order_rows_told choice names between rows are =
    let told = rows_where between (supported (λ (f : Between). f.traces) choice.least is_order) names in
    let left = all_orders_left (IsToldRow between is_order names) choice.reduced told are.left are.are_left (all_supported (λ (f : Between). f.traces) choice.least between is_order names) in
    all_sorted (IsToldRow between is_order names) (λ (f : Between). f.traces) are.left rows are.sorted left
