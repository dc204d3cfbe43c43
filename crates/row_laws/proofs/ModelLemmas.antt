-- The rows of the evidence of kept traces name the relations of their model.
use Rattle.std.proofs.Common.{◌≡◌, ◌≢◌, ◌↔◌, ℕ, ◌<◌, ◌≤◌, Bool, true, false, Some, List, [], length, slice_get, subst, arith, Ordering}
use Rattle.std.specs.Cmp.{IsTotalOrder}
use Rattle.std.specs.Cmp.Lexicographic.{slice_cmp}
use Rattle.std.specs.Ordering.{nat_cmp}
use Rattle.std.specs.declared.cmp.Ordering.TheVariants.{Less}
use Rattle.std.proofs.lemmas.Option.{slice_get_within}
use Rattle.trace_types.specs.Listing.{ListsExactly}
use Rattle.trace_types.specs.NameOrder.{name_cmp, pair_cmp}
use Rattle.trace_types.specs.Pipelines.{RefutesUnshared}
use Rattle.trace_types.specs.Refuting.{RefutesApart}
use Rattle.trace_types.specs.Segments.{SegmentName}
use Rattle.trace_types.specs.Surviving.{IsRefuted}
use Rattle.trace_types.proofs.ComparingLemmas.{text_total}
use Rattle.trace_types.proofs.ListingLemmas.{few_different, name_total, pair_total}
use Rattle.trace_types.proofs.ZipLemmas.{zip_length}
use Rattle.digest_facts.specs.DigestLaws.{TellsOfAll}
use Rattle.digest_facts.specs.Digests.{empty_digest}
use Rattle.evidence_rules.specs.EvidenceRows.{AreBySupport, AreNameRows, AreOrdersLeft, AreTaskRows, Listing, is_exclusion, is_order, is_pipe, rows_where, supported}
use Rattle.evidence_rules.specs.declared.between.Between.{Between}
use Rattle.evidence_rules.specs.declared.choice.Choice.{Choice}
use Rattle.evidence_rules.specs.declared.pair_row.PairRow.{PairRow}
use Rattle.evidence_rules.specs.declared.sharing.Sharing.{Sharing}
use Rattle.session_rules.specs.EvidenceTexts.{IsEvidenceText}
use Rattle.session_rules.specs.KeptTraces.{Kept, by_kept, day_of}
use Rattle.row_laws.specs.ModelRows.{CountsAreModel, ExclusionRowsAreModel, ExclusionRowsAreSupported, IsModelExclusion, IsModelOrder, IsModelPipe, NamesMeet, OrderRowsAreModel, OrderRowsAreSupported, PipeRowsAreModel, PipeRowsAreSupported, TasksMeet, TwoNames, TwoTasks}
use Rattle.row_laws.specs.NamedRows.{NameExactly, NamesTwo}
use Rattle.row_laws.proofs.CountLemmas.{at_least_tells, some_many}
use Rattle.row_laws.proofs.KeptLemmas.{Told, counts, differ_tells, have_both, names_differ, names_listed, rises_tells, rising_differ, same_names, tasks_differ, tasks_listed}
use Rattle.row_laws.proofs.NamedLemmas.{at, name_exactly}
use Rattle.row_laws.proofs.PlaceLemmas.{HavePlaces, listed_places}
use Rattle.row_laws.proofs.SortedLemmas.{sorted_places}
use Rattle.row_laws.proofs.TestLemmas.{exclusion_tells, order_tells, pipe_tells, supported_tells}

abbrev pub between_traces : Between → ℕ
between_traces f = f.traces

abbrev pub sharing_traces : Sharing → ℕ
sharing_traces f = f.traces

-- the places below a count of which the figures tell a row
abbrev pub Listed : {F : Type 0} → (F → ℕ) → ℕ → (ℕ → ℕ → F) → Listing F → ℕ → ℕ × ℕ → Type 0
Listed traces least figures is count p = (p.0 < count) × (p.1 < count) × (supported traces least is p.0 p.1 (figures p.0 p.1) ≡ true)

-- rows name what their figures tell, where these tell a property of the two
module _ {X F : Type 0} (traces : F → ℕ) (least : ℕ) (figures : ℕ → ℕ → F) (is : Listing F) (xs : List X) where
  pub listed_tells : (T : ℕ → ℕ → Type 0) → ((i j : ℕ) → (is i j (figures i j) ≡ true) ↔ T i j) → (P : X × X → Type 0)
      → ((i j : ℕ) (a b : X) → slice_get xs i ≡ Some a → slice_get xs j ≡ Some b → (T i j × (least ≤ traces (figures i j))) ↔ P (a, b))
      → (i j : ℕ) (a b : X) → slice_get xs i ≡ Some a → slice_get xs j ≡ Some b → Listed traces least figures is (length xs) (i, j) ↔ P (a, b)
  listed_tells T test P means i j a b ai bj =
      let t = supported_tells traces least is i j (figures i j) (T i j) (test i j) in
      let m = means i j a b ai bj in (
        (λ q. m.0 (t.0 q.2)),
        (λ h. (slice_get_within xs i a ai, slice_get_within xs j b bj, t.1 (m.1 h))),
      )

-- a statement of the two that is one with another
pub same_named : {X F : Type 0} (xs : List X) (P Q : X × X → Type 0) → ((p : X × X) → P p ↔ Q p) → (rows : List (PairRow F)) → NameExactly xs P rows → NameExactly xs Q rows
same_named xs P Q same rows h = record {
  pairs = h.pairs;
  named = h.named;
  differ = h.differ;
  exactly = λ p. ((λ c. (same p).0 ((h.exactly p).0 c)), (λ q. (h.exactly p).1 ((same p).1 q)));
}

module _ (told : Told) (choice : Choice) (kept : List Kept) (bytes : List ℕ) (text : IsEvidenceText choice kept bytes) where
  -- ---- what the figures of two names mean
  abbrev pub IsOrder : TwoNames → Type 0
  IsOrder pair = IsModelOrder kept pair × NamesMeet choice.least kept pair

  abbrev pub IsExclusion : TwoNames → Type 0
  IsExclusion pair = IsModelExclusion kept pair × NamesMeet choice.least kept pair

  abbrev pub IsPipe : TwoTasks → Type 0
  IsPipe pair = IsModelPipe kept pair × TasksMeet choice.least kept pair

  module _ (i j : ℕ) (a b : SegmentName) (ai : slice_get text.names i ≡ Some a) (bj : slice_get text.names j ≡ Some b) where
    abbrev met : Between
    met = text.between i j

    -- at least so many traces have both
    pub meet_tells : (choice.least ≤ met.traces) ↔ NamesMeet choice.least kept (a, b)
    meet_tells = at_least_tells (RefutesApart by_kept a b) kept choice.least met.traces (counts told choice kept bytes text i j a b ai bj).have_both

    pub two_differ : (i ≢ j) ↔ (a ≢ b)
    two_differ = differ_tells name_cmp name_total text.names text.names_are.rising i j a b ai bj

    pub two_rise : (i < j) ↔ (name_cmp a b ≡ Less)
    two_rise = rises_tells name_cmp name_total text.names text.names_are.rising i j a b ai bj

    order_means : (((i ≢ j) × ((0 < met.traces) × (met.early ≡ 0))) × (choice.least ≤ met.traces)) ↔ IsOrder (a, b)
    order_means =
        let figures = text.met i j a b ai bj in (
          (λ h. ((told.orders same_names kept a b met (two_differ.0 h.0.0) figures).1 h.0.1, meet_tells.0 h.1)),
          (λ h. let n = h.0.differ in ((two_differ.1 n, (told.orders same_names kept a b met n figures).0 h.0), meet_tells.1 h.1)),
        )

    exclusion_means : (((i < j) × (((0 < met.traces) × (met.both ≡ 0)) × ((0 < met.early) × (0 < met.turned)))) × (choice.least ≤ met.traces)) ↔ IsExclusion (a, b)
    exclusion_means =
        let figures = text.met i j a b ai bj in (
          (λ h. ((told.exclusions same_names name_cmp kept a b met (two_rise.0 h.0.0) figures).1 (h.0.1.0.0, h.0.1.0.1, h.0.1.1.0, h.0.1.1.1), meet_tells.0 h.1)),
          (λ h.
              let r = h.0.rises in
              let t = (told.exclusions same_names name_cmp kept a b met r figures).0 h.0 in
              ((two_rise.1 r, ((t.0, t.1), (t.2, t.3))), meet_tells.1 h.1)),
        )

  module _ (i j : ℕ) (t u : List ℕ) (ti : slice_get text.tasks i ≡ Some t) (uj : slice_get text.tasks j ≡ Some u) where
    abbrev share : Sharing
    share = text.sharing i j

    pub tasks_meet : (choice.least ≤ share.traces) ↔ TasksMeet choice.least kept (t, u)
    tasks_meet = at_least_tells (RefutesUnshared by_kept t u) kept choice.least share.traces (have_both told choice kept bytes text i j t u ti uj)

    pub tasks_two : (i ≢ j) ↔ (t ≢ u)
    tasks_two = differ_tells (slice_cmp nat_cmp) text_total text.tasks text.tasks_are.rising i j t u ti uj

    pipe_means : (((i ≢ j) × ((0 < share.traces) × (share.refuted ≡ 0))) × (choice.least ≤ share.traces)) ↔ IsPipe (t, u)
    pipe_means =
        let figures = text.shared i j t u ti uj in (
          (λ h. ((told.pipes kept t u share (tasks_two.0 h.0.0) figures).1 h.0.1, tasks_meet.0 h.1)),
          (λ h. let n = h.0.differ in ((tasks_two.1 n, (told.pipes kept t u share n figures).0 h.0), tasks_meet.1 h.1)),
        )

  -- ---- rows of places, and what they name
  abbrev pub NamesListed : Listing Between → ℕ × ℕ → Type 0
  NamesListed is = Listed between_traces choice.least text.between is (length text.names)

  abbrev pub TasksListed : Listing Sharing → ℕ × ℕ → Type 0
  TasksListed is = Listed sharing_traces choice.least text.sharing is (length text.tasks)

  pub names_rows : (is : Listing Between) (rows : List (PairRow Between)) → AreNameRows choice (length text.names) text.between is rows → HavePlaces (NamesListed is) rows
  names_rows is rows are = sorted_places (rows_where text.between (supported between_traces choice.least is) (length text.names)) between_traces rows are (NamesListed is) (listed_places text.between (supported between_traces choice.least is) (length text.names))

  pub tasks_rows : (is : Listing Sharing) (rows : List (PairRow Sharing)) → AreTaskRows choice (length text.tasks) text.sharing is rows → HavePlaces (TasksListed is) rows
  tasks_rows is rows are = sorted_places (rows_where text.sharing (supported sharing_traces choice.least is) (length text.tasks)) sharing_traces rows are (TasksListed is) (listed_places text.sharing (supported sharing_traces choice.least is) (length text.tasks))

  pub names_told : (is : Listing Between) (P : TwoNames → Type 0)
      → ((i j : ℕ) (a b : SegmentName) → slice_get text.names i ≡ Some a → slice_get text.names j ≡ Some b → NamesListed is (i, j) ↔ P (a, b))
      → ((p : TwoNames) → P p → IsRefuted (RefutesApart by_kept p.0 p.1) kept) → (rows : List (PairRow Between)) → HavePlaces (NamesListed is) rows → NameExactly text.names P rows
  names_told is P tells together rows have = name_exactly text.names (names_differ told choice kept bytes text) (NamesListed is) P (λ p q. (q.0, q.1)) tells (λ p h. names_listed told choice kept bytes text p (together p h)) rows have

  pub tasks_told : (is : Listing Sharing) (P : TwoTasks → Type 0)
      → ((i j : ℕ) (t u : List ℕ) → slice_get text.tasks i ≡ Some t → slice_get text.tasks j ≡ Some u → TasksListed is (i, j) ↔ P (t, u))
      → ((p : TwoTasks) → P p → IsRefuted (RefutesUnshared by_kept p.0 p.1) kept) → (rows : List (PairRow Sharing)) → HavePlaces (TasksListed is) rows → NameExactly text.tasks P rows
  tasks_told is P tells together rows have = name_exactly text.tasks (tasks_differ told choice kept bytes text) (TasksListed is) P (λ p q. (q.0, q.1)) tells (λ p h. tasks_listed told choice kept bytes text p (together p h)) rows have

  pub orders_tell : (i j : ℕ) (a b : SegmentName) → slice_get text.names i ≡ Some a → slice_get text.names j ≡ Some b → NamesListed is_order (i, j) ↔ IsOrder (a, b)
  orders_tell = listed_tells between_traces choice.least text.between is_order text.names (λ i j. (i ≢ j) × ((0 < (text.between i j).traces) × ((text.between i j).early ≡ 0))) (λ i j. order_tells i j (text.between i j)) IsOrder order_means

  -- rows of all orders, in whatever order they stand
  pub orders_named : (rows : List (PairRow Between)) → HavePlaces (NamesListed is_order) rows → NameExactly text.names IsOrder rows
  orders_named rows have = names_told is_order IsOrder orders_tell (λ p h. h.0.together) rows have

  pub order_rows : choice.reduced ≡ false → NameExactly text.names IsOrder text.rows.orders
  order_rows whole =
      let all = rows_where text.between (supported between_traces choice.least is_order) (length text.names) in
      let same : text.are.orders.left ≡ all = subst (λ (b : Bool). AreOrdersLeft b all text.are.orders.left) whole text.are.orders.are_left in
      orders_named text.rows.orders (names_rows is_order text.rows.orders (subst (λ (l : List (PairRow Between)). AreBySupport between_traces l text.rows.orders) same text.are.orders.sorted))

  pub exclusion_rows : NameExactly text.names IsExclusion text.rows.exclusions
  exclusion_rows = names_told is_exclusion IsExclusion
      (listed_tells between_traces choice.least text.between is_exclusion text.names (λ i j. (i < j) × (((0 < (text.between i j).traces) × ((text.between i j).both ≡ 0)) × ((0 < (text.between i j).early) × (0 < (text.between i j).turned))))
      (λ i j. exclusion_tells i j (text.between i j)) IsExclusion exclusion_means)
      (λ p h. h.0.together) text.rows.exclusions (names_rows is_exclusion text.rows.exclusions text.are.exclusions)

  pub pipe_rows : NameExactly text.tasks IsPipe text.rows.pipes
  pipe_rows = tasks_told is_pipe IsPipe
      (listed_tells sharing_traces choice.least text.sharing is_pipe text.tasks (λ i j. (i ≢ j) × ((0 < (text.sharing i j).traces) × ((text.sharing i j).refuted ≡ 0))) (λ i j. pipe_tells i j (text.sharing i j)) IsPipe pipe_means)
      (λ p h. h.0.shared) text.rows.pipes (tasks_rows is_pipe text.rows.pipes text.are.pipes)

  -- ---- one trace is enough
  module _ (one : choice.least ≤ 1) where
    names_meet : (p : TwoNames) → IsRefuted (RefutesApart by_kept p.0 p.1) kept → NamesMeet choice.least kept p
    names_meet p together =
        let c = names_listed told choice kept bytes text p together in
        let ai = at text.names p.0 c.0 in
        let bj = at text.names p.1 c.1 in
        let many = some_many (RefutesApart by_kept p.0 p.1) kept (text.between c.0.0 c.1.0).traces (counts told choice kept bytes text c.0.0 c.1.0 p.0 p.1 ai bj).have_both together in
        (meet_tells c.0.0 c.1.0 p.0 p.1 ai bj).0 (omega (arith, one, many))

    share_meet : (p : TwoTasks) → IsRefuted (RefutesUnshared by_kept p.0 p.1) kept → TasksMeet choice.least kept p
    share_meet p together =
        let c = tasks_listed told choice kept bytes text p together in
        let ti = at text.tasks p.0 c.0 in
        let uj = at text.tasks p.1 c.1 in
        let many = some_many (RefutesUnshared by_kept p.0 p.1) kept (text.sharing c.0.0 c.1.0).traces (have_both told choice kept bytes text c.0.0 c.1.0 p.0 p.1 ti uj) together in
        (tasks_meet c.0.0 c.1.0 p.0 p.1 ti uj).0 (omega (arith, one, many))

    pub all_orders : choice.reduced ≡ false → NameExactly text.names (IsModelOrder kept) text.rows.orders
    all_orders whole = same_named text.names IsOrder (IsModelOrder kept) (λ p. ((λ h. h.0), (λ h. (h, names_meet p h.together)))) text.rows.orders (order_rows whole)

    pub all_exclusions : NameExactly text.names (IsModelExclusion kept) text.rows.exclusions
    all_exclusions = same_named text.names IsExclusion (IsModelExclusion kept) (λ p. ((λ h. h.0), (λ h. (h, names_meet p h.together)))) text.rows.exclusions exclusion_rows

    pub all_pipes : NameExactly text.tasks (IsModelPipe kept) text.rows.pipes
    all_pipes = same_named text.tasks IsPipe (IsModelPipe kept) (λ p. ((λ h. h.0), (λ h. (h, share_meet p h.shared)))) text.rows.pipes pipe_rows

-- rows that name exactly what is listed are as many
as_many : {X F : Type 0} (cmp : X × X → X × X → Ordering) (total : IsTotalOrder cmp) (P : X × X → Type 0) (xs : List X) (rows : List (PairRow F)) (listed : List (X × X)) → NameExactly xs P rows → ListsExactly cmp P listed → length rows ≡ length listed
as_many cmp total P xs rows listed h k =
    let size = zip_length (NamesTwo xs) rows h.pairs h.named in
    let most = few_different h.pairs listed h.differ (λ p c. (k.exactly p).1 ((h.exactly p).0 c)) in
    let least = few_different listed h.pairs (rising_differ cmp total listed k.rising) (λ p c. (h.exactly p).1 ((k.exactly p).0 c)) in
    omega (arith, size, most, least)

-- what is told where nothing is given
abbrev pub NothingGiven : Type 0
NothingGiven = (kept : List Kept) → TellsOfAll by_kept day_of name_cmp (slice_cmp nat_cmp) [] kept empty_digest

-- ---- the laws
pub counts_are_model : Told → NothingGiven → CountsAreModel
counts_are_model told given choice kept bytes others text model whole one = (
  as_many (pair_cmp name_cmp) (pair_total name_cmp name_total) (IsModelOrder kept) text.names text.rows.orders model.figures.hb (all_orders told choice kept bytes text one whole) (((given kept).ordered_rows model.figures.hb).0 model.told.hb),
  as_many (pair_cmp name_cmp) (pair_total name_cmp name_total) (IsModelExclusion kept) text.names text.rows.exclusions model.figures.mx (all_exclusions told choice kept bytes text one) (((given kept).unordered_rows model.figures.mx).0 model.told.mx),
  as_many (pair_cmp (slice_cmp nat_cmp)) (pair_total (slice_cmp nat_cmp) text_total) (IsModelPipe kept) text.tasks text.rows.pipes model.figures.pipe (all_pipes told choice kept bytes text one) (((given kept).piped_rows model.figures.pipe).0 model.told.pipe),
)

pub orders_are_model : Told → OrderRowsAreModel
orders_are_model told choice kept bytes text whole one = all_orders told choice kept bytes text one whole

pub exclusions_are_model : Told → ExclusionRowsAreModel
exclusions_are_model told choice kept bytes text one = all_exclusions told choice kept bytes text one

pub pipes_are_model : Told → PipeRowsAreModel
pipes_are_model told choice kept bytes text one = all_pipes told choice kept bytes text one

pub orders_supported : Told → OrderRowsAreSupported
orders_supported told choice kept bytes text whole = order_rows told choice kept bytes text whole

pub exclusions_supported : Told → ExclusionRowsAreSupported
exclusions_supported told choice kept bytes text = exclusion_rows told choice kept bytes text

pub pipes_supported : Told → PipeRowsAreSupported
pipes_supported told choice kept bytes text = pipe_rows told choice kept bytes text
