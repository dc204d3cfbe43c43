-- Kept traces have one text of their evidence.
use Rattle.std.proofs.Common.{◌≡◌, ℕ, ◌<◌, List, [], length, map, get_or, Contains, sym, ◌∙◌, ap, subst}
use Rattle.std.specs.Cmp.{IsTotalOrder}
use Rattle.std.specs.Cmp.Lexicographic.{slice_cmp}
use Rattle.std.specs.Ordering.{nat_cmp}
use Rattle.std.proofs.lemmas.Option.{slice_get-get_or}
use Rattle.evidence_rules.specs.EvidenceRows.{AreRows, Rows}
use Rattle.evidence_rules.specs.Meetings.{meetings_from}
use Rattle.evidence_rules.specs.RowTexts.{evidence_text}
use Rattle.evidence_rules.specs.declared.between.Between.{Between}
use Rattle.evidence_rules.specs.declared.choice.Choice.{Choice}
use Rattle.evidence_rules.specs.declared.sharing.Sharing.{Sharing}
use Rattle.segment_names.specs.Known.{same_name}
use Rattle.session_rules.specs.EvidenceTexts.{AreKeptFigures, AreKeptSharings, AreKeptTasks, IsEvidenceText, kept_fields}
use Rattle.session_rules.specs.KeptTraces.{Kept, by_kept}
use Rattle.session_rules.specs.ReportTexts.{AreKeptNames}
use Rattle.trace_types.specs.Listing.{CountsDistinct}
use Rattle.trace_types.specs.NameOrder.{name_cmp}
use Rattle.trace_types.specs.Parts.{segments_of}
use Rattle.trace_types.specs.Pipelines.{RefutesUnshared}
use Rattle.trace_types.specs.Segments.{SegmentName, name_of}
use Rattle.trace_types.specs.Surviving.{IsRefuted}
use Rattle.session_laws.proofs.JobLemmas.{OneRisingList, one_listed}
use Rattle.session_laws.proofs.EvidenceRowLemmas.{all_rows_one, between_one, sharing_one}

-- what is cited of lists that the evidence is told over
pub record OneEvidence : Type 0 where
  pub names : OneRisingList SegmentName
  pub tasks : OneRisingList (List ℕ)
  pub supports : OneRisingList (ℕ × ℕ)
  pub elements : (n m : ℕ) (xs : List (List ℕ)) → CountsDistinct n xs → CountsDistinct m xs → n ≡ m
  pub name_order : IsTotalOrder name_cmp
  pub task_order : IsTotalOrder (slice_cmp nat_cmp)

module _ (told : OneEvidence) (choice : Choice) (kept : List Kept) where
  names_one : (xs ys : List SegmentName) → AreKeptNames kept xs → AreKeptNames kept ys → xs ≡ ys
  names_one xs ys h k = one_listed told.names name_cmp (Contains (map name_of (segments_of by_kept kept))) xs ys told.name_order h k

  tasks_one : (xs ys : List (List ℕ)) → AreKeptTasks kept xs → AreKeptTasks kept ys → xs ≡ ys
  tasks_one xs ys h k = one_listed told.tasks (slice_cmp nat_cmp) (λ t. IsRefuted (RefutesUnshared by_kept t t) kept) xs ys told.task_order h k

  met_one : (names : List SegmentName) (f g : ℕ → ℕ → Between) → AreKeptFigures kept names f → AreKeptFigures kept names g → (i j : ℕ) → i < length names → j < length names → f i j ≡ g i j
  met_one names f g h k i j li lj =
      let a = get_or names i ([], [], []) in
      let b = get_or names j ([], [], []) in
      let at = slice_get-get_or names i ([], [], []) li in
      let to = slice_get-get_or names j ([], [], []) lj in
      between_one (meetings_from by_kept same_name a b 0 kept) (f i j) (g i j) (h i j a b at to) (k i j a b at to)

  shared_one : (tasks : List (List ℕ)) (f g : ℕ → ℕ → Sharing) → AreKeptSharings kept tasks f → AreKeptSharings kept tasks g → (i j : ℕ) → i < length tasks → j < length tasks → f i j ≡ g i j
  shared_one tasks f g h k i j li lj =
      let t = get_or tasks i [] in
      let u = get_or tasks j [] in
      let at = slice_get-get_or tasks i [] li in
      let to = slice_get-get_or tasks j [] lj in
      sharing_one told.elements by_kept kept t u (f i j) (g i j) (h i j t u at to) (k i j t u at to)

  -- the rows of these names and tasks are one
  rows_one : (names : List SegmentName) (tasks : List (List ℕ)) (f g : ℕ → ℕ → Between) (p q : ℕ → ℕ → Sharing) (rows others : Rows) → AreKeptFigures kept names f → AreKeptFigures kept names g → AreKeptSharings kept tasks p → AreKeptSharings kept tasks q
      → AreRows choice (length names) (length tasks) f p rows → AreRows choice (length names) (length tasks) g q others → rows ≡ others
  rows_one names tasks f g p q rows others hf hg hp hq h k = all_rows_one told.supports choice (length names) (length tasks) f g p q (met_one names f g hf hg) (shared_one tasks p q hp hq) rows others h k

  pub evidence_one : (t u : List ℕ) → IsEvidenceText choice kept t → IsEvidenceText choice kept u → t ≡ u
  evidence_one t u h k =
      h.text
      ∙ ap (λ (ns : List SegmentName). evidence_text (length kept) (kept_fields ns h.tasks kept) h.rows) names
      ∙ ap (λ (ts : List (List ℕ)). evidence_text (length kept) (kept_fields k.names ts kept) h.rows) tasks
      ∙ ap (evidence_text (length kept) (kept_fields k.names k.tasks kept)) rows
      ∙ sym k.text
    where
      names : h.names ≡ k.names
      names = names_one h.names k.names h.names_are k.names_are

      tasks : h.tasks ≡ k.tasks
      tasks = tasks_one h.tasks k.tasks h.tasks_are k.tasks_are

      rows : h.rows ≡ k.rows
      rows = rows_one k.names k.tasks h.between k.between h.sharing k.sharing h.rows k.rows
          (subst (λ (ns : List SegmentName). AreKeptFigures kept ns h.between) names h.met) k.met
          (subst (λ (ts : List (List ℕ)). AreKeptSharings kept ts h.sharing) tasks h.shared) k.shared
          (subst (λ (ts : List (List ℕ)). AreRows choice (length k.names) (length ts) h.between h.sharing h.rows) tasks
          (subst (λ (ns : List SegmentName). AreRows choice (length ns) (length h.tasks) h.between h.sharing h.rows) names h.are)) k.are
