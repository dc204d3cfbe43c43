-- The evidence by number is that of the kept traces.
use Rattle.std.proofs.Common.{◌≡◌, ◌↔◌, ℕ, ◌<◌, ◌==◌, true, Some, List, [], ◌∷◌, length, map, get_or, slice_get, slice_index, Contains, Ordering, sym, ap, ◌∙◌, subst, arith}
use Rattle.std.specs.List.{AllZip, enumerate_from}
use Rattle.std.specs.Cmp.Lexicographic.{slice_cmp}
use Rattle.std.specs.Ordering.{nat_cmp}
use Rattle.std.specs.declared.cmp.Ordering.TheVariants.{Less}
use Rattle.std.proofs.lemmas.List.{get_or-map, length-map}
use Rattle.std.proofs.lemmas.List.Elements.{Contains-get_or}
use Rattle.std.proofs.lemmas.Option.{get_or_from_slice_get, slice_get-get_or, slice_get_within}
use Rattle.book_laws.specs.Shown.{AreShown, IsShown}
use Rattle.book_laws.proofs.BookLemmas.{book_days}
use Rattle.certificate_rows.specs.Orders.{numbered_name, numbered_task}
use Rattle.certificate_rows.proofs.ElementLemmas.{pairs_map, zip_right}
use Rattle.day_partitions.specs.Books.{BookState, IsBook, all_traces}
use Rattle.evidence_laws.specs.ModelLaws.{TellsSame}
use Rattle.evidence_laws.proofs.ModelLemmas.{some_together, some_verdict, together_some, verdicts_some}
use Rattle.evidence_rules.specs.EvidenceRows.{AreRows, Rows}
use Rattle.evidence_rules.specs.Meetings.{AreMeetingFigures}
use Rattle.evidence_rules.specs.RowTexts.{evidence_text, fields_at, name_fields}
use Rattle.evidence_rules.specs.declared.choice.Choice.{Choice}
use Rattle.evidence_rules.specs.declared.meeting.Meeting.{Meeting}
use Rattle.name_meetings.specs.Tables as name_tables
use Rattle.name_rows.specs.Kinds.{between_at}
use Rattle.segment_names.specs.Known.{Known, same_name}
use Rattle.segment_names.specs.Limits.{IsKept}
use Rattle.session_rules.specs.EvidenceTexts.{AreKeptFigures, AreKeptSharings, AreKeptTasks, IsEvidenceText}
use Rattle.session_rules.specs.ReportTexts.{AreKeptNames}
use Rattle.session_rules.specs.KeptTraces.{Kept, by_kept}
use Rattle.task_rows.specs.Kinds.{sharing_at}
use Rattle.task_rows.specs.Tables as task_tables
use Rattle.trace_types.specs.Listing.{ListsExactly}
use Rattle.trace_types.specs.NameOrder.{name_cmp}
use Rattle.trace_types.specs.Parts.{by_number, segments_of}
use Rattle.trace_types.specs.Pipelines.{RefutesUnshared}
use Rattle.trace_types.specs.Refuting.{RefutesApart}
use Rattle.trace_types.specs.Renaming.{IsOneToOne, IsSegmentRenamed, IsTraceRenamed, LeaveAlike}
use Rattle.trace_types.specs.Surviving.{IsRefuted}
use Rattle.trace_types.specs.Segments.{SegmentName, name_of, task_of}
use Rattle.trace_types.specs.declared.named_segment.NamedSegment.{NamedSegment}
use Rattle.trace_types.specs.declared.segment.Segment.{Segment}
use Rattle.segment_names.proofs.TextLemmas.{name_means, name_own}
use Rattle.trace_types.proofs.ElementLemmas.{Contains-flat_map, Contains-from_get, Contains-map, from_flat_map, from_map}
use Rattle.trace_types.proofs.MatchLemmas.{zip_map}
use Rattle.trace_types.proofs.NumberingLemmas.{numbered_at, numbered_once}
use Rattle.trace_types.proofs.RenamingLemmas.{leave_alike}
use Rattle.trace_types.proofs.ZipLemmas.{zip_length}
use Rattle.evidence_printing.specs.inner.Numbered.{AreNumbersOf, AreRowsOf, AreTablesOf, numbered_fields, numbered_text}
use Rattle.evidence_printing.proofs.MeetingLemmas.{from_alike}
use Rattle.evidence_printing.proofs.NamedLemmas.{same_numbers}
use Rattle.evidence_printing.proofs.PlaceLemmas.{places_are}
use Rattle.evidence_printing.proofs.SharingLemmas.{sharings_alike}
use Rattle.evidence_printing.proofs.TableLemmas.{figures_at, sharings_at}

-- the test of two names
pub same_names : TellsSame same_name
same_names a b = (name_means a b, λ e. subst (λ (n : SegmentName). same_name a n ≡ true) e (name_own a))

-- ---- texts by their numbers
module _ {X : Type 0} (texts : List X) (none : X) (numbers : List ℕ) where
  abbrev text : ℕ → X
  text n = get_or texts n none

  -- what stands at a place of the texts has the number that stands there
  pub number_at : ((n : ℕ) → Contains numbers n → n < length texts) → (i : ℕ) (x : X) → slice_get (map text numbers) i ≡ Some x → (i < length numbers) × Contains (enumerate_from 0 texts) (slice_index numbers i, x)
  number_at below i x e =
      let long = length-map numbers text in
      let within = slice_get_within (map text numbers) i x e in
      let lt : i < length numbers = omega (arith, long, within) in
      let n = get_or numbers i 0 in
      let is : text n ≡ x = sym (get_or-map text numbers i 0 x lt) ∙ get_or_from_slice_get (map text numbers) i x x e in
      (lt, (numbered_at texts n x).1 (slice_get-get_or texts n none (below n (Contains-get_or numbers i 0 lt)) ∙ ap (λ (v : X). Some v) is))

  -- where the numbers are those below the number of texts that have a property, the texts are those that have one
  pub texts_listed : (cmp : X → X → Ordering) (P : ℕ → Type 0) (Q : X → Type 0) → ((n : ℕ) (x : X) → slice_get texts n ≡ Some x → P n ↔ Q x) → ((x : X) → Q x → (n : ℕ) × (slice_get texts n ≡ Some x))
      → ListsExactly (λ (m n : ℕ). cmp (text m) (text n)) (λ n. (n < length texts) × P n) numbers → ListsExactly cmp Q (map text numbers)
  texts_listed cmp P Q alike number are = record {
    rising = pairs_map text (λ (x y : X). cmp x y ≡ Less) numbers are.rising;
    exactly = λ x. (
      (λ c.
          let r = from_map text numbers x c in
          let h = (are.exactly r.0).0 r.1 in
          (alike r.0 x (slice_get-get_or texts r.0 none h.0 ∙ ap (λ (v : X). Some v) r.2)).0 h.1),
      (λ q.
          let n = number x q in
          Contains-map text numbers n.0 x ((are.exactly n.0).1 (slice_get_within texts n.0 x n.1, (alike n.0 x n.1).1 q)) (get_or_from_slice_get texts n.0 x none n.1)),
    );
  }

module _ (known : Known) (keeps : IsKept known) (b : BookState) (is : IsBook b) (choice : Choice) (meetings : name_tables.TableState) (sharings : task_tables.TableState) (names tasks : List ℕ) (rows : Rows) (kept : List Kept)
    (tables : AreTablesOf known (all_traces b.days) meetings sharings) (numbers : AreNumbersOf known meetings sharings names tasks)
    (rows_are : AreRowsOf choice meetings sharings names tasks rows) (shown : AreShown known (all_traces b.days) kept) where
  abbrev by_names : List (ℕ × SegmentName)
  by_names = enumerate_from 0 known.names

  abbrev by_tasks : List (ℕ × List ℕ)
  by_tasks = enumerate_from 0 known.tasks

  abbrev name_texts : List SegmentName
  name_texts = map (numbered_name known) names

  abbrev task_texts : List (List ℕ)
  task_texts = map (numbered_task known) tasks

  renamed : AllZip (IsTraceRenamed by_number by_kept by_names by_tasks) (all_traces b.days) kept
  renamed = zip_map (IsShown known) (IsTraceRenamed by_number by_kept by_names by_tasks) (λ t k s. s.renamed) (all_traces b.days) kept shown

  one_names : IsOneToOne by_names
  one_names = numbered_once known.names keeps.names_differ

  one_tasks : IsOneToOne by_tasks
  one_tasks = numbered_once known.tasks keeps.tasks_differ

  leave : LeaveAlike by_number by_kept by_names by_tasks (all_traces b.days) kept
  leave = leave_alike by_number by_kept by_names by_tasks one_names one_tasks (all_traces b.days) kept renamed

  -- ---- figures
  met : AreKeptFigures kept name_texts (between_at meetings names)
  met i j x y ex ey =
      let p = number_at known.names ([], [], []) names (λ n c. ((numbers.names_are.exactly n).0 c).0) i x ex in
      let q = number_at known.names ([], [], []) names (λ n c. ((numbers.names_are.exactly n).0 c).0) j y ey in
      let same = from_alike by_number by_kept by_names by_tasks one_names (λ (m n : ℕ). m == n) same_name same_numbers same_names
      (slice_index names i) (slice_index names j) x y p.1 q.1 0 (all_traces b.days) kept renamed in
      subst (λ (ms : List Meeting). AreMeetingFigures ms (between_at meetings names i j)) same (figures_at known (all_traces b.days) meetings sharings names tasks tables numbers i j p.0 q.0)

  shared : AreKeptSharings kept task_texts (sharing_at sharings tasks)
  shared i j x y ex ey =
      let p = number_at known.tasks [] tasks (λ n c. ((numbers.tasks_are.exactly n).0 c).0) i x ex in
      let q = number_at known.tasks [] tasks (λ n c. ((numbers.tasks_are.exactly n).0 c).0) j y ey in
      sharings_alike by_number by_kept by_names by_tasks one_names one_tasks
      (slice_index tasks i) (slice_index tasks j) x y p.1 q.1 (all_traces b.days) kept renamed (sharing_at sharings tasks i j) (sharings_at known (all_traces b.days) meetings sharings names tasks tables numbers i j p.0 q.0)

  -- ---- names
  segment_of : (x : Segment) (k : Kept) → Contains kept k → Contains k.trace.segments x → (s : NamedSegment) × (slice_get known.names s.name ≡ Some (name_of x)) × (slice_get known.tasks s.task ≡ Some (task_of x))
  segment_of x k ck cx =
      let t = zip_right (IsShown known) (all_traces b.days) kept shown k ck in
      let z = zip_right (IsSegmentRenamed by_number by_kept by_names by_tasks t.2.renamed.elements) t.0.segments k.trace.segments t.2.renamed.segments x cx in
      (z.0, (numbered_at known.names z.0.name (name_of x)).0 z.2.name, (numbered_at known.tasks z.0.task (task_of x)).0 z.2.task)

  abbrev IsName : SegmentName → Type 0
  IsName x = Contains (map name_of (segments_of by_kept kept)) x

  apart_named : (x : SegmentName) → IsRefuted (RefutesApart by_kept x x) kept ↔ IsName x
  apart_named x = (
    (λ r. Contains-map name_of (segments_of by_kept kept) r.4.0 x (Contains-flat_map (λ (k : Kept). k.trace.segments) kept r.1 r.4.0 (r.0, r.2, r.3) r.4.2) r.4.4),
    (λ c.
        let s = from_map name_of (segments_of by_kept kept) x c in
        let k = from_flat_map (λ (k : Kept). k.trace.segments) kept s.0 s.1 in
        (k.1.0, k.0, k.1.1, k.1.2, (s.0, s.0, k.2, k.2, s.2, s.2, tt))),
  )

  has_name : (n : ℕ) (x : SegmentName) → slice_get known.names n ≡ Some x → (0 < (name_tables.figures_of meetings n n).traces) ↔ IsName x
  has_name n x e =
      let c = (numbered_at known.names n x).1 e in
      let lt = slice_get_within known.names n x e in
      let figures = tables.met n n lt lt in
      let alike = leave.apart.refuted n n x x c c in (
        (λ l. (apart_named x).0 (alike.0 (some_together by_number (λ (i j : ℕ). i == j) same_numbers n n (all_traces b.days) (subst (λ (v : ℕ). 0 < v) figures.traces l)))),
        (λ h. subst (λ (v : ℕ). 0 < v) (sym figures.traces) (together_some by_number (λ (i j : ℕ). i == j) same_numbers n n (all_traces b.days) (alike.1 ((apart_named x).1 h)))),
      )

  name_known : (x : SegmentName) → IsName x → (n : ℕ) × (slice_get known.names n ≡ Some x)
  name_known x c =
      let s = from_map name_of (segments_of by_kept kept) x c in
      let k = from_flat_map (λ (k : Kept). k.trace.segments) kept s.0 s.1 in
      let z = segment_of s.0 k.0 k.1 k.2 in
      (z.0.name, z.1 ∙ ap (λ (v : SegmentName). Some v) s.2)

  names_are : AreKeptNames kept name_texts
  names_are = texts_listed known.names ([], [], []) names name_cmp (λ n. 0 < (name_tables.figures_of meetings n n).traces) IsName has_name name_known numbers.names_are

  -- ---- tasks
  abbrev IsTask : List ℕ → Type 0
  IsTask x = IsRefuted (RefutesUnshared by_kept x x) kept

  has_task : (n : ℕ) (x : List ℕ) → slice_get known.tasks n ≡ Some x → (0 < (task_tables.figures_of sharings n n).traces) ↔ IsTask x
  has_task n x e =
      let c = (numbered_at known.tasks n x).1 e in
      let lt = slice_get_within known.tasks n x e in
      let figures = tables.shared n n lt lt in
      let alike = leave.unshared.refuted n n x x c c in (
        (λ l. alike.0 (verdicts_some (RefutesUnshared by_number n n) (all_traces b.days) figures.shared figures.share (subst (λ (v : ℕ). 0 < v) figures.traces_are l))),
        (λ h. let r = alike.1 h in subst (λ (v : ℕ). 0 < v) (sym figures.traces_are) (some_verdict (RefutesUnshared by_number n n) (all_traces b.days) figures.shared figures.share r.0 r.1 r.2 r.3 r.4)),
      )

  task_known : (x : List ℕ) → IsTask x → (n : ℕ) × (slice_get known.tasks n ≡ Some x)
  task_known x r =
      let z = segment_of r.4.s r.1 (r.0, r.2, r.3) (Contains-from_get r.1.trace.segments r.4.k r.4.s r.4.one.segment) in
      (z.0.task, z.2 ∙ ap (λ (v : List ℕ). Some v) r.4.one.task)

  tasks_are : AreKeptTasks kept task_texts
  tasks_are = texts_listed known.tasks [] tasks (slice_cmp nat_cmp) (λ n. 0 < (task_tables.figures_of sharings n n).traces) IsTask has_task task_known numbers.tasks_are

  are : AreRows choice (length name_texts) (length task_texts) (between_at meetings names) (sharing_at sharings tasks) rows
  are = subst (λ (n : ℕ). AreRows choice n (length task_texts) (between_at meetings names) (sharing_at sharings tasks) rows) (sym (length-map names (numbered_name known)))
      (subst (λ (n : ℕ). AreRows choice (length names) n (between_at meetings names) (sharing_at sharings tasks) rows) (sym (length-map tasks (numbered_task known))) rows_are)

  -- ---- the text
  abbrev text_with : ℕ → (ℕ → List (List ℕ)) → List ℕ
  text_with count places = evidence_text count (record {
    name = λ place. fields_at name_fields (slice_get name_texts place);
    task = λ place. fields_at (λ t. t ∷ []) (slice_get task_texts place);
    trace = places;
  }) rows

  pub evidence_shown : IsEvidenceText choice kept (numbered_text known b.days names tasks rows)
  evidence_shown = record {
    names = name_texts;
    tasks = task_texts;
    names_are = names_are;
    tasks_are = tasks_are;
    between = between_at meetings names;
    sharing = sharing_at sharings tasks;
    met = met;
    shared = shared;
    rows = rows;
    are = are;
    text = ap (λ (n : ℕ). text_with n (numbered_fields known b.days names tasks).trace) (zip_length (IsShown known) (all_traces b.days) kept shown)
        ∙ ap (text_with (length kept)) (λ k i. places_are known b.days (book_days b is) kept shown i k);
  }
