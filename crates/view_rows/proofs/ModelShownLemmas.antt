-- What is found by number, as the figures of a given digest and of kept traces.
use Rattle.std.proofs.Common.{◌≡◌, ◌≢◌, ◌↔◌, ◌⊎◌, ℕ, zero, suc, ◌+◌, ◌<◌, ◌≤◌, Bool, Some, List, [], ◌∷◌, ◌++◌, length, length-append, get_or, map, refl, sym, ap, ◌∙◌, subst, inl, inr, ⊎_elim, arith, Ordering}
use Rattle.std.specs.declared.cmp.Ordering.TheVariants.{Less}
use Rattle.std.specs.Cmp.{IsTotalOrder}
use Rattle.std.specs.List.{AllPairs, Contains, enumerate_from, slice_get}
use Rattle.std.proofs.lemmas.Cmp.{nat_cmp_total}
use Rattle.std.proofs.lemmas.List.{get_or-map, length-map}
use Rattle.std.proofs.lemmas.List.Elements.{All-contains, Contains-append_cases, Contains-append_left, Contains-append_right}
use Rattle.std.proofs.lemmas.Option.{get_or_from_slice_get, slice_get-get_or, slice_get_within}
use Rattle.std.proofs.lemmas.Slice.Zip.{AllZip-long}
use Rattle.day_partitions.specs.Books.{AreOfDay, BookState, HasTraces, IsBook, KeptDay, all_traces}
use Rattle.book_laws.specs.Shown.{AreShown, IsShown}
use Rattle.digest_facts.specs.Coherence.{IsCoherent}
use Rattle.digest_facts.specs.Digests.{Digest}
use Rattle.digest_facts.specs.Facts.{IsOrdered, IsPiped, IsUnordered}
use Rattle.digest_facts.specs.Tables.{Table, name_byte, rows_from, table_of, task_byte}
use Rattle.digest_merging.specs.Merges.{IsTableOf}
use Rattle.judged_books.specs.JudgedBooks.{IsJudgedOf, JudgedState}
use Rattle.judged_books.specs.JudgedLaws.{AreJudgedWords}
use Rattle.kept_books.specs.KeptBooks.{traces_in}
use Rattle.model_meet.specs.RelationBits.{HasExclusion, HasOrder, HasPipe}
use Rattle.segment_names.specs.Known.{Known}
use Rattle.segment_names.specs.Limits.{IsKept}
use Rattle.session_rules.specs.GivenDigests.{known_under}
use Rattle.session_rules.specs.KeptTraces.{Kept, by_kept, day_of}
use Rattle.session_rules.specs.ModelTexts.{AreModelFigures, traces_under}
use Rattle.trace_types.specs.declared.named_segment.NamedSegment.{NamedSegment}
use Rattle.trace_types.specs.declared.named_trace.NamedTrace.{NamedTrace}
use Rattle.trace_types.specs.declared.segment.Segment.{Segment}
use Rattle.trace_types.specs.Listing.{CountsDistinct}
use Rattle.trace_types.specs.NamedSegments.{number_of_name, number_of_task}
use Rattle.trace_types.specs.NameOrder.{name_cmp, pair_cmp}
use Rattle.trace_types.specs.Parts.{by_number, segments_of}
use Rattle.trace_types.specs.Pipelines.{RefutesUnshared}
use Rattle.trace_types.specs.Refuting.{RefutesApart}
use Rattle.trace_types.specs.Renaming.{IsSegmentRenamed}
use Rattle.trace_types.specs.Segments.{SegmentName, name_of, task_of}
use Rattle.trace_types.specs.Surviving.{IsRefuted}
use Rattle.std.specs.Cmp.Lexicographic.{slice_cmp}
use Rattle.std.specs.Ordering.{nat_cmp}
use Rattle.trace_types.proofs.ListingLemmas.{name_total}
use Rattle.trace_types.proofs.ComparingLemmas.{text_total, less_differs}
use Rattle.trace_types.proofs.ElementLemmas.{Contains-map, from_map, Contains-flat_map, from_flat_map, Contains-from_get, one_item}
use Rattle.trace_types.proofs.ExactLemmas.{ListsExactly-same}
use Rattle.trace_types.proofs.MatchLemmas.{partner_in}
use Rattle.trace_types.proofs.PairLemmas.{AllPairs-append}
use Rattle.view_rows.specs.declared.found_model.FoundModel.{FoundModel}
use Rattle.view_rows.specs.inner.Found.{IsFound, figures_in}
use Rattle.view_rows.specs.inner.Gathered.{AreMarksWith, CountsOthers, days_in}
use Rattle.kept_names.specs.Listings.{HoldsOfTexts, ListsMarked}
use Rattle.view_rows.specs.inner.Listings.{IsExclusion, IsOrder, IsPipe}
use Rattle.view_rows.proofs.ElementLemmas.{map_zip, zip_right}
use Rattle.kept_names.proofs.ListingLemmas.{texts_of, texts_rise}

-- ---- the days
a_trace : (traces : List NamedTrace) → 0 < length traces → (t : NamedTrace) × Contains traces t
a_trace [] lt = absurd (omega arith)
a_trace (t ∷ ts) lt = (t, (0, omega arith, refl))

-- the days of a book are those of its traces
days_alike : (b : BookState) → IsBook b → (x : ℕ) → Contains (days_in b.days) x ↔ Contains (map (λ (t : NamedTrace). t.day) (all_traces b.days)) x
days_alike b is x = (
  (λ c. let r = from_map (λ (k : KeptDay). k.day) b.days x c in
      let some = All-contains HasTraces b.days r.0 is.some r.1 in
      let dated = All-contains (λ (k : KeptDay). AreOfDay k.day k.traces) b.days r.0 is.dated r.1 in
      let first = a_trace r.0.traces some in
      Contains-map (λ (t : NamedTrace). t.day) (all_traces b.days) first.0 x (Contains-flat_map (λ (k : KeptDay). k.traces) b.days r.0 first.0 r.1 first.1)
      (All-contains (λ (t : NamedTrace). t.day ≡ r.0.day) r.0.traces first.0 dated first.1 ∙ r.2)),
  (λ c. let r = from_map (λ (t : NamedTrace). t.day) (all_traces b.days) x c in
      let q = from_flat_map (λ (k : KeptDay). k.traces) b.days r.0 r.1 in
      let dated = All-contains (λ (k : KeptDay). AreOfDay k.day k.traces) b.days q.0 is.dated q.1 in
      Contains-map (λ (k : KeptDay). k.day) b.days q.0 x q.1 (sym (All-contains (λ (t : NamedTrace). t.day ≡ q.0.day) q.0.traces r.0 dated q.2) ∙ r.2)),
)

-- the days of a digest and those of others that are not among them
days_both : (firsts these more : List ℕ) (new n : ℕ) → AllPairs (λ x y. x ≢ y) firsts → CountsOthers firsts these new → ((x : ℕ) → Contains these x ↔ Contains more x) → n ≡ length firsts + new → CountsDistinct n (firsts ++ more)
days_both firsts these more new n differ r alike e = record {
  all = firsts ++ r.others;
  differ = AllPairs-append (λ x y. x ≢ y) firsts r.others differ r.differ (λ x y c d same. (r.apart y d).1 (subst (Contains firsts) same c));
  exactly = λ x. (
    (λ c. ⊎_elim
        (λ (d : Contains firsts x). Contains-append_left firsts more x d)
        (λ (d : Contains r.others x). Contains-append_right firsts more x ((alike x).0 (r.apart x d).0))
        (Contains-append_cases firsts r.others x c)),
    (λ c. ⊎_elim
        (λ (d : Contains firsts x). Contains-append_left firsts r.others x d)
        (λ (d : Contains more x). ⊎_elim
        (λ (f : Contains firsts x). Contains-append_left firsts r.others x f)
        (λ (o : Contains r.others x). Contains-append_right firsts r.others x o)
        (r.either x ((alike x).1 d)))
        (Contains-append_cases firsts more x c)),
  );
  count = length-append firsts r.others ∙ ap (λ k. length firsts + k) r.count ∙ sym e;
}

-- ---- segments by number and by text
-- the segment by text has the name and the task of these numbers
abbrev Matches : Known → NamedSegment → Segment → Type 0
Matches known s x = Contains (enumerate_from 0 known.names) (number_of_name s, name_of x) × Contains (enumerate_from 0 known.tasks) (number_of_task s, task_of x)

module _ (known : Known) (traces : List NamedTrace) (kept : List Kept) (shown : AreShown known traces kept) where
  segment_left : (s : NamedSegment) → Contains (segments_of by_number traces) s → (x : Segment) × Contains (segments_of by_kept kept) x × Matches known s x
  segment_left s c =
      let r = from_flat_map (λ (t : NamedTrace). t.segments) traces s c in
      let z = partner_in (IsShown known) traces kept shown r.0 r.1 in
      let w = partner_in (IsSegmentRenamed by_number by_kept (enumerate_from 0 known.names) (enumerate_from 0 known.tasks) z.2.renamed.elements) r.0.segments z.0.trace.segments z.2.renamed.segments s r.2 in
      (w.0, Contains-flat_map (λ (k : Kept). k.trace.segments) kept z.0 w.0 z.1 w.1, (w.2.name, w.2.task))

  segment_right : (x : Segment) → Contains (segments_of by_kept kept) x → (s : NamedSegment) × Contains (segments_of by_number traces) s × Matches known s x
  segment_right x c =
      let r = from_flat_map (λ (k : Kept). k.trace.segments) kept x c in
      let z = zip_right (IsShown known) traces kept shown r.0 r.1 in
      let w = zip_right (IsSegmentRenamed by_number by_kept (enumerate_from 0 known.names) (enumerate_from 0 known.tasks) z.2.renamed.elements) z.0.segments r.0.trace.segments z.2.renamed.segments x r.2 in
      (w.0, Contains-flat_map (λ (t : NamedTrace). t.segments) traces z.0 w.0 z.1 w.1, (w.2.name, w.2.task))

-- ---- listed texts
-- what stands in front stands there with more behind it
at_front : {X : Type 0} (xs ys : List X) (a : ℕ) → a < length xs → slice_get (xs ++ ys) a ≡ slice_get xs a
at_front [] ys a lt = absurd (omega arith)
at_front (x ∷ xs) ys zero lt = refl
at_front (x ∷ xs) ys (suc a) lt = at_front xs ys a (omega arith)

module _ {X : Type 0} (texts firsts more : List X) (begins : texts ≡ firsts ++ more) (limit : ℕ) (few : length texts ≤ limit) (number : NamedSegment → ℕ) (text : Segment → X) (segments : List NamedSegment) (others : List Segment)
    (left : (s : NamedSegment) → Contains segments s → (x : Segment) × Contains others x × (slice_get texts (number s) ≡ Some (text x)))
    (right : (x : Segment) → Contains others x → (s : NamedSegment) × Contains segments s × (slice_get texts (number s) ≡ Some (text x)))
    (cmp : X → X → Ordering) (total : IsTotalOrder cmp) (marks : List Bool) (items : List (X × ℕ)) (marked : AreMarksWith limit (length firsts) (map number segments) marks) (listed : ListsMarked cmp texts marks items) where
  first_at : (a : ℕ) → a < length firsts → slice_get texts a ≡ slice_get firsts a
  first_at a lt = ap (λ l. slice_get l a) begins ∙ at_front firsts more a lt

  item_occurs : (x : X) (a : ℕ) → Contains items (x, a) → Contains (firsts ++ map text others) x
  item_occurs x a c =
      let e = (listed.exactly (x, a)).0 c in
      ⊎_elim
      (λ (lt : (a < length firsts) × (a < limit)). Contains-append_left firsts (map text others) x (Contains-from_get firsts a x (sym (first_at a lt.0) ∙ e.0)))
      (λ (d : Contains (map number segments) a).
      let r = from_map number segments a d in
      let l = left r.0 r.1 in
      let at : slice_get texts a ≡ Some (text l.0) = subst (λ (k : ℕ). slice_get texts k ≡ Some (text l.0)) r.2 l.2 in
      Contains-append_right firsts (map text others) x (Contains-map text others l.0 x l.1 (one_item texts a (text l.0) x at e.0)))
      ((marked a).0 e.1)

  occurs_item : (x : X) → Contains (firsts ++ map text others) x → (a : ℕ) × Contains items (x, a)
  occurs_item x c = ⊎_elim
      (λ (d : Contains firsts x).
      let at : slice_get texts d.0 ≡ Some x = first_at d.0 d.1 ∙ (slice_get-get_or firsts d.0 x d.1 ∙ ap (λ (v : X). Some v) d.2) in
      let inside : d.0 < length texts = slice_get_within texts d.0 x at in
      (d.0, (listed.exactly (x, d.0)).1 (at, (marked d.0).1 (inl (d.1, omega arith)))))
      (λ (d : Contains (map text others) x).
      let r = from_map text others x d in
      let s = right r.0 r.1 in
      let at : slice_get texts (number s.0) ≡ Some x = subst (λ (v : X). slice_get texts (number s.0) ≡ Some v) r.2 s.2 in
      (number s.0, (listed.exactly (x, number s.0)).1 (at, (marked (number s.0)).1 (inr (Contains-map number segments s.0 (number s.0) s.1 refl)))))
      (Contains-append_cases firsts (map text others) x c)

  texts_counted : (n : ℕ) → n ≡ length items → CountsDistinct n (firsts ++ map text others)
  texts_counted n e = record {
    all = texts_of items;
    differ = λ i j d lt inside same. less_differs cmp total (get_or (texts_of items) i d) (get_or (texts_of items) j d) (texts_rise cmp total items listed.rising i j d lt inside) same;
    exactly = λ x. (
      (λ c. let r = from_map (λ (i : X × ℕ). i.0) items x c in subst (Contains (firsts ++ map text others)) r.2 (item_occurs r.0.0 r.0.1 r.1)),
      (λ c. let r = occurs_item x c in Contains-map (λ (i : X × ℕ). i.0) items (x, r.0) x r.1 refl),
    );
    count = length-map items (λ (i : X × ℕ). i.0) ∙ sym e;
  }

  holds_alike : (R : ℕ → ℕ → Type 0) (Q : Type 0) (x y : X) → ((a b : ℕ) → slice_get texts a ≡ Some x → slice_get texts b ≡ Some y → R a b ↔ Q)
      → (Q → Contains (firsts ++ map text others) x × Contains (firsts ++ map text others) y) → HoldsOfTexts items R x y ↔ Q
  holds_alike R Q x y agree occur = (
    (λ h. (agree h.0 h.1 ((listed.exactly (x, h.0)).0 h.2).0 ((listed.exactly (y, h.1)).0 h.3).0).0 h.4),
    (λ q. let o = occur q in
        let i = occurs_item x o.0 in
        let j = occurs_item y o.1 in
        (i.0, j.0, i.1, j.1, (agree i.0 j.0 ((listed.exactly (x, i.0)).0 i.1).0 ((listed.exactly (y, j.0)).0 j.1).0).1 q)),
  )

-- ---- names and tasks of a relation
together_named : (kept : List Kept) (x y : SegmentName) → IsRefuted (RefutesApart by_kept x y) kept → Contains (map name_of (segments_of by_kept kept)) x × Contains (map name_of (segments_of by_kept kept)) y
together_named kept x y r = let both = r.4 in (
  Contains-map name_of (segments_of by_kept kept) both.0 x (Contains-flat_map (λ (k : Kept). k.trace.segments) kept r.1 both.0 (r.0, r.2, r.3) both.2) both.4,
  Contains-map name_of (segments_of by_kept kept) both.1 y (Contains-flat_map (λ (k : Kept). k.trace.segments) kept r.1 both.1 (r.0, r.2, r.3) both.3) both.5,
)

shared_tasks : (kept : List Kept) (t u : List ℕ) → IsRefuted (RefutesUnshared by_kept t u) kept → Contains (map task_of (segments_of by_kept kept)) t × Contains (map task_of (segments_of by_kept kept)) u
shared_tasks kept t u r = let both = r.4 in (
  Contains-map task_of (segments_of by_kept kept) both.s t (Contains-flat_map (λ (k : Kept). k.trace.segments) kept r.1 both.s (r.0, r.2, r.3) (Contains-from_get r.1.trace.segments both.k both.s both.one.segment)) both.one.task,
  Contains-map task_of (segments_of by_kept kept) both.r u (Contains-flat_map (λ (k : Kept). k.trace.segments) kept r.1 both.r (r.0, r.2, r.3) (Contains-from_get r.1.trace.segments both.l both.r both.other.segment)) both.other.task,
)

-- a table has a row for each
rows_count : {X : Type 0} (byte : X → X → ℕ) (earlier xs : List X) → length (rows_from byte earlier xs) ≡ length xs
rows_count byte earlier [] = refl
rows_count byte earlier (x ∷ xs) = ap suc (rows_count byte (earlier ++ x ∷ []) xs)

-- the names and the tasks of both
abbrev names_of_both : Digest SegmentName (List ℕ) → List Kept → List SegmentName
names_of_both given kept = given.names ++ map name_of (segments_of by_kept kept)

abbrev tasks_of_both : Digest SegmentName (List ℕ) → List Kept → List (List ℕ)
tasks_of_both given kept = given.tasks ++ map task_of (segments_of by_kept kept)

-- names that the one or the other has together, and tasks that share an element there
names_met : (given : Digest SegmentName (List ℕ)) (kept : List Kept) (x y : SegmentName) → IsCoherent name_cmp (slice_cmp nat_cmp) given → Contains given.together (x, y) ⊎ IsRefuted (RefutesApart by_kept x y) kept
    → Contains (names_of_both given kept) x × Contains (names_of_both given kept) y
names_met given kept x y is met =
    let more = map name_of (segments_of by_kept kept) in
    ⊎_elim
    (λ (c : Contains given.together (x, y)). (Contains-append_left given.names more x (is.together.first x y c), Contains-append_left given.names more y (is.together.second x y c)))
    (λ (r : IsRefuted (RefutesApart by_kept x y) kept). let both = together_named kept x y r in (Contains-append_right given.names more x both.0, Contains-append_right given.names more y both.1))
    met

tasks_met : (given : Digest SegmentName (List ℕ)) (kept : List Kept) (t u : List ℕ) → IsCoherent name_cmp (slice_cmp nat_cmp) given → Contains given.shared (t, u) ⊎ IsRefuted (RefutesUnshared by_kept t u) kept
    → Contains (tasks_of_both given kept) t × Contains (tasks_of_both given kept) u
tasks_met given kept t u is met =
    let more = map task_of (segments_of by_kept kept) in
    ⊎_elim
    (λ (c : Contains given.shared (t, u)). (Contains-append_left given.tasks more t (is.shared.first t u c), Contains-append_left given.tasks more u (is.shared.second t u c)))
    (λ (r : IsRefuted (RefutesUnshared by_kept t u) kept). let both = shared_tasks kept t u r in (Contains-append_right given.tasks more t both.0, Contains-append_right given.tasks more u both.1))
    met

-- the marks of as many firsts
marks_with : (limit m n : ℕ) (numbers : List ℕ) (marks : List Bool) → m ≡ n → AreMarksWith limit m numbers marks → AreMarksWith limit n numbers marks
marks_with limit m n numbers marks same marked = subst (λ (k : ℕ). AreMarksWith limit k numbers marks) same marked

module _ (j : JudgedState) (given : Digest SegmentName (List ℕ)) (kept : List Kept) (m : FoundModel) (is : IsJudgedOf j given kept) (found : IsFound j m) (judge : AreJudgedWords j.book.known given kept j.words)
    (at_name : (k : ℕ) (x : SegmentName) → Contains (enumerate_from 0 j.book.known.names) (k, x) ↔ (slice_get j.book.known.names k ≡ Some x))
    (at_task : (k : ℕ) (x : List ℕ) → Contains (enumerate_from 0 j.book.known.tasks) (k, x) ↔ (slice_get j.book.known.tasks k ≡ Some x)) where
  abbrev known : Known
  known = j.book.known

  abbrev named : List NamedSegment
  named = segments_of by_number (traces_in j.book)

  abbrev texted : List Segment
  texted = segments_of by_kept kept

  name_left : (s : NamedSegment) → Contains named s → (x : Segment) × Contains texted x × (slice_get known.names (number_of_name s) ≡ Some (name_of x))
  name_left s c = let r = segment_left known (traces_in j.book) kept is.shown s c in (r.0, r.1, (at_name (number_of_name s) (name_of r.0)).0 r.2.0)

  name_right : (x : Segment) → Contains texted x → (s : NamedSegment) × Contains named s × (slice_get known.names (number_of_name s) ≡ Some (name_of x))
  name_right x c = let r = segment_right known (traces_in j.book) kept is.shown x c in (r.0, r.1, (at_name (number_of_name r.0) (name_of x)).0 r.2.0)

  task_left : (s : NamedSegment) → Contains named s → (x : Segment) × Contains texted x × (slice_get known.tasks (number_of_task s) ≡ Some (task_of x))
  task_left s c = let r = segment_left known (traces_in j.book) kept is.shown s c in (r.0, r.1, (at_task (number_of_task s) (task_of r.0)).0 r.2.1)

  task_right : (x : Segment) → Contains texted x → (s : NamedSegment) × Contains named s × (slice_get known.tasks (number_of_task s) ≡ Some (task_of x))
  task_right x c = let r = segment_right known (traces_in j.book) kept is.shown x c in (r.0, r.1, (at_task (number_of_task r.0) (task_of x)).0 r.2.1)

  -- the table of the given digest
  abbrev made : Table SegmentName (List ℕ)
  made = table_of name_cmp (slice_cmp nat_cmp) given

  many_names : length j.given.table.names ≡ length given.names
  many_names = ap (λ (u : Table SegmentName (List ℕ)). length u.names) is.given.table.table ∙ rows_count (name_byte name_cmp (slice_cmp nat_cmp) given) [] given.names

  many_tasks : length j.given.table.tasks ≡ length given.tasks
  many_tasks = ap (λ (u : Table SegmentName (List ℕ)). length u.tasks) is.given.table.table ∙ rows_count (task_byte name_cmp (slice_cmp nat_cmp) given) [] given.tasks

  days_same : j.given.table.days ≡ given.days
  days_same = ap (λ (u : Table SegmentName (List ℕ)). u.days) is.given.table.table

  name_marks : AreMarksWith 512 (length given.names) (map number_of_name named) found.names.marks
  name_marks = marks_with 512 (length j.given.table.names) (length given.names) (map number_of_name named) found.names.marks many_names found.names.marked

  task_marks : AreMarksWith 64 (length given.tasks) (map number_of_task named) found.tasks.marks
  task_marks = marks_with 64 (length j.given.table.tasks) (length given.tasks) (map number_of_task named) found.tasks.marks many_tasks found.tasks.marked

  names_hold : (R : ℕ → ℕ → Type 0) (Q : Type 0) (x y : SegmentName) → ((k l : ℕ) → slice_get known.names k ≡ Some x → slice_get known.names l ≡ Some y → R k l ↔ Q)
      → (Q → Contains (names_of_both given kept) x × Contains (names_of_both given kept) y) → HoldsOfTexts found.names.items R x y ↔ Q
  names_hold R Q x y agree occur = holds_alike known.names given.names is.begins.more_names is.begins.names 512 is.judged.book.known.few_names number_of_name name_of named texted name_left name_right name_cmp name_total found.names.marks found.names.items name_marks found.names.listed R Q x y agree occur

  tasks_hold : (R : ℕ → ℕ → Type 0) (Q : Type 0) (x y : List ℕ) → ((k l : ℕ) → slice_get known.tasks k ≡ Some x → slice_get known.tasks l ≡ Some y → R k l ↔ Q)
      → (Q → Contains (tasks_of_both given kept) x × Contains (tasks_of_both given kept) y) → HoldsOfTexts found.tasks.items R x y ↔ Q
  tasks_hold R Q x y agree occur = holds_alike known.tasks given.tasks is.begins.more_tasks is.begins.tasks 64 is.judged.book.known.few_tasks number_of_task task_of named texted task_left task_right (slice_cmp nat_cmp) text_total found.tasks.marks found.tasks.items task_marks found.tasks.listed R Q x y agree occur

  order_alike : (x y : SegmentName) → IsOrder found.names.items j.words x y ↔ IsOrdered (known_under given kept) x y
  order_alike x y = names_hold (HasOrder j.words) (IsOrdered (known_under given kept) x y) x y
      (λ k l p q. judge.ordered k l x y p q)
      (λ h. names_met given kept x y is.given.table.coherent h.together)

  exclusion_alike : (x y : SegmentName) → IsExclusion found.names.items j.words x y ↔ IsUnordered (known_under given kept) name_cmp x y
  exclusion_alike x y =
      let alike = λ (rises : name_cmp x y ≡ Less). names_hold (HasExclusion j.words) (IsUnordered (known_under given kept) name_cmp x y) x y
      (λ k l p q. judge.unordered k l x y p q rises)
      (λ h. names_met given kept x y is.given.table.coherent h.together) in (
        (λ h. (alike h.0).0 h.1),
        (λ h. (h.rises, (alike h.rises).1 h)),
      )

  pipe_alike : (x y : List ℕ) → IsPipe found.tasks.items j.words x y ↔ IsPiped (known_under given kept) x y
  pipe_alike x y = tasks_hold (HasPipe j.words) (IsPiped (known_under given kept) x y) x y
      (λ k l p q. judge.piped k l x y p q)
      (λ h. tasks_met given kept x y is.given.table.coherent h.shared)

  -- the days
  given_days : AllPairs (λ x y. x ≢ y) given.days
  given_days = λ i k d lt inside. less_differs nat_cmp nat_cmp_total (get_or given.days i d) (get_or given.days k d) (is.given.table.coherent.form.days i k d lt inside)

  kept_days : (x : ℕ) → Contains (days_in j.book.book.days) x ↔ Contains (map day_of kept) x
  kept_days x = subst (λ (l : List ℕ). Contains (days_in j.book.book.days) x ↔ Contains l x) (map_zip (λ (t : NamedTrace). t.day) day_of (IsShown known) (λ t k s. s.day) (traces_in j.book) kept is.shown) (days_alike j.book.book is.judged.book.book x)

  days_found : CountsDistinct m.days (given.days ++ map day_of kept)
  days_found = days_both given.days (days_in j.book.book.days) (map day_of kept) found.days.new m.days given_days
      (subst (λ (l : List ℕ). CountsOthers l (days_in j.book.book.days) found.days.new) days_same found.days.others) kept_days
      (found.days.count ∙ ap (λ (l : List ℕ). length l + found.days.new) days_same)

  pub found_shown : AreModelFigures given kept (figures_in m) × (m.traces ≡ traces_under given kept)
  found_shown = (
    record {
      days = days_found;
      names = texts_counted known.names given.names is.begins.more_names is.begins.names 512 is.judged.book.known.few_names number_of_name name_of named texted name_left name_right name_cmp name_total found.names.marks found.names.items name_marks found.names.listed m.names found.names.count;
      tasks = texts_counted known.tasks given.tasks is.begins.more_tasks is.begins.tasks 64 is.judged.book.known.few_tasks number_of_task task_of named texted task_left task_right (slice_cmp nat_cmp) text_total found.tasks.marks found.tasks.items task_marks found.tasks.listed m.tasks found.tasks.count;
      hb = ListsExactly-same (pair_cmp name_cmp) (λ (p : SegmentName × SegmentName). IsOrder found.names.items j.words p.0 p.1) (λ (p : SegmentName × SegmentName). IsOrdered (known_under given kept) p.0 p.1) (λ p. order_alike p.0 p.1) m.hb.items found.names.hb;
      mx = ListsExactly-same (pair_cmp name_cmp) (λ (p : SegmentName × SegmentName). IsExclusion found.names.items j.words p.0 p.1) (λ (p : SegmentName × SegmentName). IsUnordered (known_under given kept) name_cmp p.0 p.1) (λ p. exclusion_alike p.0 p.1) m.mx.items found.names.mx;
      pipe = ListsExactly-same (pair_cmp (slice_cmp nat_cmp)) (λ (p : List ℕ × List ℕ). IsPipe found.tasks.items j.words p.0 p.1) (λ (p : List ℕ × List ℕ). IsPiped (known_under given kept) p.0 p.1) (λ p. pipe_alike p.0 p.1) m.pipe.items found.tasks.pipe;
    },
    found.traces ∙ (ap (λ (u : Table SegmentName (List ℕ)). u.traces + length (traces_in j.book)) is.given.table.table ∙ ap (λ (n : ℕ). given.traces + n) (sym (AllZip-long (IsShown known) (traces_in j.book) kept is.shown))),
  )
