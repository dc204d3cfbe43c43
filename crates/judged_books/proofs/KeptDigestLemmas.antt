-- The table of the digest of kept traces, by what a book lists.
use Rattle.std.proofs.Common.{◌≡◌, ◌≢◌, ◌↔◌, ℕ, ◌+◌, ◌<◌, ◌==◌, Bool, true, false, List, [], ◌∷◌, ◌++◌, length, map, get_or, take, zero, suc, Some, refl, sym, ap, ◌∙◌, subst, ⊎_elim, arith, Ordering}
use Rattle.std.specs.Prelude.{All, Contains, slice_get}
use Rattle.std.specs.Option.{option_map}
use Rattle.std.specs.List.{AllZip, enumerate_from}
use Rattle.std.specs.Cmp.Lexicographic.{slice_cmp}
use Rattle.std.specs.Ordering.{nat_cmp}
use Rattle.std.specs.declared.cmp.Ordering.TheVariants.{Less, Equal}
use Rattle.std.proofs.lemmas.Bool.{eq-eqb, eqb-true}
use Rattle.std.proofs.lemmas.Cmp.{tied_itself}
use Rattle.std.proofs.lemmas.List.{get_or-map, get_or-take, get_or_default, length-map, length-take-le}
use Rattle.std.proofs.lemmas.Option.{get_or_from_slice_get, slice_get_within}
use Rattle.std.proofs.lemmas.List.Elements.{All-contains, Contains-get_or}
use Rattle.std.proofs.lemmas.Slice.Zip.{AllZip-long}
use Rattle.day_partitions.specs.Books.{AreOfDay, BookState, HasTraces, IsBook, KeptDay, all_traces}
use Rattle.hypothesis_index.specs.declared.relation.Relation.TheVariants.{Before, Exclusive, Apart, Pipe, Unshared}
use Rattle.kept_books.specs.KeptBooks.{KeptState, traces_in}
use Rattle.kept_names.specs.Listings.{AreItemsBelow, ListsMarked}
use Rattle.kept_names.specs.Marking.{AreMarksOf}
use Rattle.kept_names.proofs.ListingLemmas.{texts_of, texts_rise}
use Rattle.model_meet.specs.RelationBits.{bit_between, relation_bit}
use Rattle.segment_names.specs.Known.{Known}
use Rattle.session_rules.specs.KeptTraces.{Kept, by_kept, day_of}
use Rattle.trace_types.proofs.ElementLemmas.{Contains-flat_map, Contains-map, from_flat_map, from_map, one_item}
use Rattle.trace_types.proofs.ListingLemmas.{Contains-cons}
use Rattle.trace_types.proofs.MatchLemmas.{partner_in}
use Rattle.trace_types.specs.Listing.{ListsExactly}
use Rattle.trace_types.specs.NamedSegments.{number_of_name, number_of_task}
use Rattle.trace_types.specs.NameOrder.{name_cmp}
use Rattle.trace_types.specs.Parts.{by_number, segments_of}
use Rattle.trace_types.specs.Pipelines.{HandlesAt, RefutesPipe, RefutesUnshared, TakesOutOfOrder, TakesUnfinished}
use Rattle.trace_types.specs.Refuting.{StartsEarly}
use Rattle.trace_types.specs.Surviving.{IsRefuted}
use Rattle.trace_types.specs.Renaming.{IsSegmentRenamed, LeaveAlike}
use Rattle.trace_types.specs.Segments.{SegmentName, name_of, task_of}
use Rattle.trace_types.specs.declared.named_segment.NamedSegment.{NamedSegment}
use Rattle.trace_types.specs.declared.named_trace.NamedTrace.{NamedTrace}
use Rattle.trace_types.specs.declared.segment.Segment.{Segment}
use Rattle.digest_facts.specs.Digests.{Digest, TellsApart}
use Rattle.digest_facts.specs.DigestsOfTraces.{IsDigestOf}
use Rattle.digest_facts.specs.Facts.{facts_of}
use Rattle.digest_facts.specs.Tables.{name_byte, pair_byte, rows_from, task_byte}
use Rattle.digest_facts.proofs.CoherenceLemmas.{coherent}
use Rattle.digest_facts.proofs.MergeLemmas.{name_apart, text_apart}
use Rattle.digest_facts.proofs.ListLemmas.{to_flat, to_map}
use Rattle.digest_facts.proofs.UnionLemmas.{cons_cases, nil_has}
use Rattle.digest_merging.proofs.UnionLemmas.{less_is}
use Rattle.digest_merging.specs.Merges.{IsTaskOfSome}
use Rattle.book_laws.specs.Shown.{AreShown, IsShown}
use Rattle.judged_books.specs.KeptDigests.{IsKeptTable}
use Rattle.judged_books.specs.inner.Copies.{IsSheetOfBook}
use Rattle.judged_books.specs.inner.KeptRows.{marked_rows, name_mark, task_mark}
use Rattle.judged_books.proofs.JudgedLemmas.{AreNumbered, AreSymmetric, HasPlaces}
use Rattle.judged_books.proofs.KeptBitLemmas.{kept_apart, kept_before, kept_exclusive, kept_pipe, kept_unshared}
use Rattle.judged_books.proofs.MarkedLemmas.{rows_are}
use Rattle.judged_books.proofs.PairLemmas.{has_is, lists_pairs, pairs_by}

-- ---- the days
a_trace : (traces : List NamedTrace) → 0 < length traces → (t : NamedTrace) × Contains traces t
a_trace [] lt = absurd (omega arith)
a_trace (t ∷ ts) lt = (t, (0, omega arith, refl))

map_zip : {A B C : Type 0} (f : A → C) (g : B → C) (R : A → B → Type 0) → ((x : A) (y : B) → R x y → f x ≡ g y) → (xs : List A) (ys : List B) → AllZip R xs ys → map f xs ≡ map g ys
map_zip f g R same [] [] z = refl
map_zip f g R same [] (y ∷ ys) z = absurd z
map_zip f g R same (x ∷ xs) [] z = absurd z
map_zip {C = C} f g R same (x ∷ xs) (y ∷ ys) z = ap (λ (v : C). v ∷ map f xs) (same x y z.0) ∙ ap (λ (l : List C). g y ∷ l) (map_zip f g R same xs ys z.1)

days_listed : (b : BookState) → IsBook b → ListsExactly nat_cmp (Contains (map (λ (t : NamedTrace). t.day) (all_traces b.days))) (map (λ (k : KeptDay). k.day) b.days)
days_listed b is = record {
  rising = λ i j d lt inside.
      let day = λ (k : KeptDay). k.day in
      let none : KeptDay = record { day = d; traces = [] } in
      let within : j < length b.days = omega (arith, inside, length-map b.days day) in
      let ei = get_or-map day b.days i none d (omega (arith, lt, within)) in
      let ej = get_or-map day b.days j none d within in
      let below : (get_or b.days i none).day < (get_or b.days j none).day = is.rising i j none lt within in
      subst (λ (n : ℕ). nat_cmp n (get_or (map day b.days) j d) ≡ Less) (sym ei) (subst (λ (n : ℕ). nat_cmp (get_or b.days i none).day n ≡ Less) (sym ej) (less_is (get_or b.days i none).day (get_or b.days j none).day below));
  exactly = λ x. (
    (λ c. let r = from_map (λ (k : KeptDay). k.day) b.days x c in
        let some = All-contains HasTraces b.days r.0 is.some r.1 in
        let dated = All-contains (λ (k : KeptDay). AreOfDay k.day k.traces) b.days r.0 is.dated r.1 in
        let first = a_trace r.0.traces some in
        Contains-map (λ (t : NamedTrace). t.day) (all_traces b.days) first.0 x (Contains-flat_map (λ (k : KeptDay). k.traces) b.days r.0 first.0 r.1 first.1)
        (All-contains (λ (t : NamedTrace). t.day ≡ r.0.day) r.0.traces first.0 dated first.1 ∙ r.2)),
    (λ c. let r = from_map (λ (t : NamedTrace). t.day) (all_traces b.days) x c in
        let q = from_flat_map (λ (k : KeptDay). k.traces) b.days r.0 r.1 in
        let dated = All-contains (λ (k : KeptDay). AreOfDay k.day k.traces) b.days q.0 is.dated q.1 in
        Contains-map (λ (k : KeptDay). k.day) b.days q.0 x q.1 (sym (All-contains (λ (t : NamedTrace). t.day ≡ q.0.day) q.0.traces r.0 dated q.2) ∙ r.2)),
  );
}

-- ---- segments by number and by text
zip_right_at : {A B : Type 0} (R : A → B → Type 0) (xs : List A) (ys : List B) → AllZip R xs ys → (y : B) → Contains ys y → (x : A) × Contains xs x × R x y
zip_right_at R xs [] z y c = absurd (omega (arith, c.1))
zip_right_at R [] (b ∷ ys) z y c = absurd z
zip_right_at {A} {B} R (a ∷ xs) (b ∷ ys) z y c = ⊎_elim
    (λ (e : b ≡ y). (a, (0, omega arith, refl), subst (λ (v : B). R a v) e z.0))
    (λ (d : Contains ys y). let r = zip_right_at R xs ys z.1 y d in (r.0, Contains-cons a xs r.0 r.1, r.2))
    (cons_cases b ys y c)

module _ (known : Known) (traces : List NamedTrace) (kept : List Kept) (shown : AreShown known traces kept) where
  abbrev Matches : NamedSegment → Segment → Type 0
  Matches s x = Contains (enumerate_from 0 known.names) (number_of_name s, name_of x) × Contains (enumerate_from 0 known.tasks) (number_of_task s, task_of x)

  segment_left : (s : NamedSegment) → Contains (segments_of by_number traces) s → (x : Segment) × Contains (segments_of by_kept kept) x × Matches s x
  segment_left s c =
      let r = from_flat_map (λ (t : NamedTrace). t.segments) traces s c in
      let z = partner_in (IsShown known) traces kept shown r.0 r.1 in
      let w = partner_in (IsSegmentRenamed by_number by_kept (enumerate_from 0 known.names) (enumerate_from 0 known.tasks) z.2.renamed.elements) r.0.segments z.0.trace.segments z.2.renamed.segments s r.2 in
      (w.0, Contains-flat_map (λ (k : Kept). k.trace.segments) kept z.0 w.0 z.1 w.1, (w.2.name, w.2.task))

  segment_right : (x : Segment) → Contains (segments_of by_kept kept) x → (s : NamedSegment) × Contains (segments_of by_number traces) s × Matches s x
  segment_right x c =
      let r = from_flat_map (λ (k : Kept). k.trace.segments) kept x c in
      let z = zip_right_at (IsShown known) traces kept shown r.0 r.1 in
      let w = zip_right_at (IsSegmentRenamed by_number by_kept (enumerate_from 0 known.names) (enumerate_from 0 known.tasks) z.2.renamed.elements) z.0.segments r.0.trace.segments z.2.renamed.segments x r.2 in
      (w.0, Contains-flat_map (λ (t : NamedTrace). t.segments) traces z.0 w.0 z.1 w.1, (w.2.name, w.2.task))

-- ---- listed texts are those of the segments
module _ {X : Type 0} (texts : List X) (number : NamedSegment → ℕ) (text : Segment → X) (segments : List NamedSegment) (others : List Segment)
    (left : (s : NamedSegment) → Contains segments s → (x : Segment) × Contains others x × (slice_get texts (number s) ≡ Some (text x)))
    (right : (x : Segment) → Contains others x → (s : NamedSegment) × Contains segments s × (slice_get texts (number s) ≡ Some (text x)))
    (cmp : X → X → Ordering) (o : TellsApart cmp) (marks : List Bool) (items : List (X × ℕ)) (marked : AreMarksOf (map number segments) marks) (listed : ListsMarked cmp texts marks items) where
  item_occurs : (x : X) (a : ℕ) → Contains items (x, a) → Contains (map text others) x
  item_occurs x a c =
      let e = (listed.exactly (x, a)).0 c in
      let r = from_map number segments a ((marked a).0 e.1) in
      let l = left r.0 r.1 in
      let at : slice_get texts a ≡ Some (text l.0) = subst (λ (k : ℕ). slice_get texts k ≡ Some (text l.0)) r.2 l.2 in
      Contains-map text others l.0 x l.1 (one_item texts a (text l.0) x at e.0)

  occurs_item : (x : X) → Contains (map text others) x → (a : ℕ) × Contains items (x, a)
  occurs_item x c =
      let r = from_map text others x c in
      let s = right r.0 r.1 in
      let at : slice_get texts (number s.0) ≡ Some x = subst (λ (v : X). slice_get texts (number s.0) ≡ Some v) r.2 s.2 in
      (number s.0, (listed.exactly (x, number s.0)).1 (at, (marked (number s.0)).1 (Contains-map number segments s.0 (number s.0) s.1 refl)))

  pub texts_listed : ListsExactly cmp (Contains (map text others)) (texts_of items)
  texts_listed = record {
    rising = texts_rise cmp o.total items listed.rising;
    exactly = λ x. (
      (λ c. let r = from_map (λ (i : X × ℕ). i.0) items x c in subst (Contains (map text others)) r.2 (item_occurs r.0.0 r.0.1 r.1)),
      (λ c. let r = occurs_item x c in Contains-map (λ (i : X × ℕ). i.0) items (x, r.0) x r.1 refl),
    );
  }

  pub stands : (i : X × ℕ) → Contains items i → slice_get texts i.1 ≡ Some i.0
  stands i c = ((listed.exactly i).0 c).0

-- a test for zero
zero_tells : (n : ℕ) (P : Type 0) → (n ≡ 0) ↔ P → ((n == 0) ≡ true) ↔ P
zero_tells n P h = ((λ e. h.0 (eqb-true n 0 e)), (λ p. eq-eqb n 0 (h.1 p)))

-- ---- names and tasks of what is refuted
name_in : (kept : List Kept) (k : Kept) (s : Segment) (a : SegmentName) → Contains kept k → Contains k.trace.segments s → name_of s ≡ a → Contains (map name_of (segments_of by_kept kept)) a
name_in kept k s a c d e = subst (λ (v : SegmentName). Contains (map name_of (segments_of by_kept kept)) v) e (to_map name_of (segments_of by_kept kept) s (to_flat by_kept.segments kept k s c d))

task_in : (kept : List Kept) (k : Kept) (t element : List ℕ) (n : ℕ) (s : Segment) → Contains kept k → HandlesAt by_kept k t element n s → Contains (map task_of (segments_of by_kept kept)) t
task_in kept k t element n s c h =
    let xs = k.trace.segments in
    let at : Contains xs s = (n, slice_get_within xs n s h.segment, get_or_from_slice_get xs n s s h.segment) in
    subst (λ (v : List ℕ). Contains (map task_of (segments_of by_kept kept)) v) h.task (to_map task_of (segments_of by_kept kept) s (to_flat by_kept.segments kept k s c at))

both_named : (R : Kept → Segment → Segment → Type 0) (kept : List Kept) (a b : SegmentName) → IsRefuted (λ k. (s : Segment) × (t : Segment) × Contains k.trace.segments s × Contains k.trace.segments t × (name_of s ≡ a) × (name_of t ≡ b) × R k s t) kept
    → Contains (map name_of (segments_of by_kept kept)) a × Contains (map name_of (segments_of by_kept kept)) b
both_named R kept a b r = (name_in kept r.1 r.4.0 a (r.0, r.2, r.3) r.4.2 r.4.4, name_in kept r.1 r.4.1 b (r.0, r.2, r.3) r.4.3 r.4.5)

both_shared : (kept : List Kept) (t u : List ℕ) → IsRefuted (RefutesUnshared by_kept t u) kept → Contains (map task_of (segments_of by_kept kept)) t × Contains (map task_of (segments_of by_kept kept)) u
both_shared kept t u r = (task_in kept r.1 t r.4.element r.4.k r.4.s (r.0, r.2, r.3) r.4.one, task_in kept r.1 u r.4.element r.4.l r.4.r (r.0, r.2, r.3) r.4.other)

pipe_shares : (t u : List ℕ) (k : Kept) → RefutesPipe by_kept t u k → RefutesUnshared by_kept t u k
pipe_shares t u k r = ⊎_elim
    (λ (h : TakesUnfinished by_kept t u k). record { element = h.element; k = h.giver; l = h.taker; s = h.given; r = h.taken; one = h.ends.handles; other = h.starts.handles })
    (λ (h : TakesOutOfOrder by_kept t u k). record { element = h.one; k = h.in_order.earlier; l = h.turned.later; s = h.in_order.s; r = h.turned.r; one = h.in_order.first.handles; other = h.turned.second.handles })
    r

both_piped : (kept : List Kept) (t u : List ℕ) → IsRefuted (RefutesPipe by_kept t u) kept → Contains (map task_of (segments_of by_kept kept)) t × Contains (map task_of (segments_of by_kept kept)) u
both_piped kept t u r = both_shared kept t u (r.0, r.1, r.2, r.3, pipe_shares t u r.1 r.4)

-- ---- the digest
module _ (p : HasPlaces) (symmetric : AreSymmetric) (k : KeptState) (words : List ℕ) (kept : List Kept) (sheet : IsSheetOfBook k words) (shown : AreShown k.known (traces_in k) kept) (numbered : AreNumbered k.known)
    (alike : LeaveAlike by_number by_kept (enumerate_from 0 k.known.names) (enumerate_from 0 k.known.tasks) (traces_in k) kept)
    (name_marks task_marks : List Bool) (names : List (SegmentName × ℕ)) (tasks : List (List ℕ × ℕ))
    (names_marked : AreMarksOf (map number_of_name (segments_of by_number (traces_in k))) name_marks) (tasks_marked : AreMarksOf (map number_of_task (segments_of by_number (traces_in k))) task_marks)
    (names_listed : ListsMarked name_cmp k.known.names name_marks names) (tasks_listed : ListsMarked (slice_cmp nat_cmp) k.known.tasks task_marks tasks) where
  abbrev test_both : ℕ → ℕ → Bool
  test_both m n = bit_between words Apart m n == 0

  abbrev test_before : ℕ → ℕ → Bool
  test_before m n = relation_bit words (Before m n) == 0

  abbrev test_exclusive : ℕ → ℕ → Bool
  test_exclusive m n = bit_between words Exclusive m n == 0

  abbrev test_shared : ℕ → ℕ → Bool
  test_shared t u = bit_between words Unshared t u == 0

  abbrev test_pipe : ℕ → ℕ → Bool
  test_pipe t u = relation_bit words (Pipe t u) == 0

  abbrev digest : Digest SegmentName (List ℕ)
  digest = record {
    traces = length kept;
    days = map (λ (d : KeptDay). d.day) k.book.days;
    names = texts_of names;
    tasks = texts_of tasks;
    together = pairs_by name_cmp name_apart names names_listed.rising test_both;
    before = pairs_by name_cmp name_apart names names_listed.rising test_before;
    exclusive = pairs_by name_cmp name_apart names names_listed.rising test_exclusive;
    shared = pairs_by (slice_cmp nat_cmp) text_apart tasks tasks_listed.rising test_shared;
    pipe = pairs_by (slice_cmp nat_cmp) text_apart tasks tasks_listed.rising test_pipe;
  }

  traces_long : length (traces_in k) ≡ length kept
  traces_long = sym (AllZip-long (IsShown k.known) (traces_in k) kept shown)

  days_are : map (λ (t : NamedTrace). t.day) (traces_in k) ≡ map day_of kept
  days_are = map_zip (λ (t : NamedTrace). t.day) day_of (IsShown k.known) (λ t q h. h.day) (traces_in k) kept shown

  name_left : (s : NamedSegment) → Contains (segments_of by_number (traces_in k)) s → (x : Segment) × Contains (segments_of by_kept kept) x × (slice_get k.known.names (number_of_name s) ≡ Some (name_of x))
  name_left s c = let r = segment_left k.known (traces_in k) kept shown s c in (r.0, r.1, (numbered.names (number_of_name s) (name_of r.0)).0 r.2.0)

  name_right : (x : Segment) → Contains (segments_of by_kept kept) x → (s : NamedSegment) × Contains (segments_of by_number (traces_in k)) s × (slice_get k.known.names (number_of_name s) ≡ Some (name_of x))
  name_right x c = let r = segment_right k.known (traces_in k) kept shown x c in (r.0, r.1, (numbered.names (number_of_name r.0) (name_of x)).0 r.2.0)

  task_left : (s : NamedSegment) → Contains (segments_of by_number (traces_in k)) s → (x : Segment) × Contains (segments_of by_kept kept) x × (slice_get k.known.tasks (number_of_task s) ≡ Some (task_of x))
  task_left s c = let r = segment_left k.known (traces_in k) kept shown s c in (r.0, r.1, (numbered.tasks (number_of_task s) (task_of r.0)).0 r.2.1)

  task_right : (x : Segment) → Contains (segments_of by_kept kept) x → (s : NamedSegment) × Contains (segments_of by_number (traces_in k)) s × (slice_get k.known.tasks (number_of_task s) ≡ Some (task_of x))
  task_right x c = let r = segment_right k.known (traces_in k) kept shown x c in (r.0, r.1, (numbered.tasks (number_of_task r.0) (task_of x)).0 r.2.1)

  names_are : ListsExactly name_cmp (Contains (map name_of (segments_of by_kept kept))) (texts_of names)
  names_are = texts_listed k.known.names number_of_name name_of (segments_of by_number (traces_in k)) (segments_of by_kept kept) name_left name_right name_cmp name_apart name_marks names names_marked names_listed

  tasks_are : ListsExactly (slice_cmp nat_cmp) (Contains (map task_of (segments_of by_kept kept))) (texts_of tasks)
  tasks_are = texts_listed k.known.tasks number_of_task task_of (segments_of by_number (traces_in k)) (segments_of by_kept kept) task_left task_right (slice_cmp nat_cmp) text_apart task_marks tasks tasks_marked tasks_listed

  name_stands : (i : SegmentName × ℕ) → Contains names i → slice_get k.known.names i.1 ≡ Some i.0
  name_stands i c = ((names_listed.exactly i).0 c).0

  task_stands : (i : List ℕ × ℕ) → Contains tasks i → slice_get k.known.tasks i.1 ≡ Some i.0
  task_stands i c = ((tasks_listed.exactly i).0 c).0

  name_numbers : (i j : SegmentName × ℕ) → Contains names i → Contains names j → i.0 ≢ j.0 → i.1 ≢ j.1
  name_numbers i j c d differ e = differ (one_item k.known.names j.1 i.0 j.0 (subst (λ (n : ℕ). slice_get k.known.names n ≡ Some i.0) e (name_stands i c)) (name_stands j d))

  task_numbers : (i j : List ℕ × ℕ) → Contains tasks i → Contains tasks j → i.0 ≢ j.0 → i.1 ≢ j.1
  task_numbers i j c d differ e = differ (one_item k.known.tasks j.1 i.0 j.0 (subst (λ (n : ℕ). slice_get k.known.tasks n ≡ Some i.0) e (task_stands i c)) (task_stands j d))

  both_listed : (a b : SegmentName) → Contains (map name_of (segments_of by_kept kept)) a × Contains (map name_of (segments_of by_kept kept)) b → Contains (texts_of names) a × Contains (texts_of names) b
  both_listed a b h = ((names_are.exactly a).1 h.0, (names_are.exactly b).1 h.1)

  both_tasks : (t u : List ℕ) → Contains (map task_of (segments_of by_kept kept)) t × Contains (map task_of (segments_of by_kept kept)) u → Contains (texts_of tasks) t × Contains (texts_of tasks) u
  both_tasks t u h = ((tasks_are.exactly t).1 h.0, (tasks_are.exactly u).1 h.1)

  digest_is : IsDigestOf by_kept day_of name_cmp (slice_cmp nat_cmp) kept digest
  digest_is = record {
    count = refl;
    days = subst (λ (l : List ℕ). ListsExactly nat_cmp (Contains l) (map (λ (d : KeptDay). d.day) k.book.days)) days_are (days_listed k.book sheet.book.book);
    names = names_are;
    tasks = tasks_are;
    together = lists_pairs name_cmp name_apart names names_listed.rising test_both (facts_of by_kept kept).apart
        (λ i j c d differ. zero_tells (bit_between words Apart i.1 j.1) ((facts_of by_kept kept).apart i.0 j.0) (kept_apart k words kept sheet shown p numbered symmetric alike i.1 j.1 i.0 j.0 (name_stands i c) (name_stands j d) (name_numbers i j c d differ)))
        (λ a b r. both_listed a b (both_named (λ q s t. Unit {0}) kept a b r));
    before = lists_pairs name_cmp name_apart names names_listed.rising test_before (facts_of by_kept kept).before
        (λ i j c d differ. zero_tells (relation_bit words (Before i.1 j.1)) ((facts_of by_kept kept).before i.0 j.0) (kept_before k words kept sheet shown p numbered symmetric alike i.1 j.1 i.0 j.0 (name_stands i c) (name_stands j d) (name_numbers i j c d differ)))
        (λ a b r. both_listed a b (both_named (λ q s t. StartsEarly by_kept q t s) kept a b r));
    exclusive = lists_pairs name_cmp name_apart names names_listed.rising test_exclusive (facts_of by_kept kept).exclusive
        (λ i j c d differ. zero_tells (bit_between words Exclusive i.1 j.1) ((facts_of by_kept kept).exclusive i.0 j.0) (kept_exclusive k words kept sheet shown p numbered symmetric alike i.1 j.1 i.0 j.0 (name_stands i c) (name_stands j d) (name_numbers i j c d differ)))
        (λ a b r. both_listed a b (both_named (λ q s t. StartsEarly by_kept q s t × StartsEarly by_kept q t s) kept a b r));
    shared = lists_pairs (slice_cmp nat_cmp) text_apart tasks tasks_listed.rising test_shared (facts_of by_kept kept).unshared
        (λ i j c d differ. zero_tells (bit_between words Unshared i.1 j.1) ((facts_of by_kept kept).unshared i.0 j.0) (kept_unshared k words kept sheet shown p numbered symmetric alike i.1 j.1 i.0 j.0 (task_stands i c) (task_stands j d) (task_numbers i j c d differ)))
        (λ t u r. both_tasks t u (both_shared kept t u r));
    pipe = lists_pairs (slice_cmp nat_cmp) text_apart tasks tasks_listed.rising test_pipe (facts_of by_kept kept).pipe
        (λ i j c d differ. zero_tells (relation_bit words (Pipe i.1 j.1)) ((facts_of by_kept kept).pipe i.0 j.0) (kept_pipe k words kept sheet shown p numbered symmetric alike i.1 j.1 i.0 j.0 (task_stands i c) (task_stands j d) (task_numbers i j c d differ)))
        (λ t u r. both_tasks t u (both_piped kept t u r));
  }

  -- ---- its table
  rising_differ : {X : Type 0} (cmp : X → X → Ordering) (o : TellsApart cmp) (x y : X) → cmp x y ≡ Less → x ≢ y
  rising_differ {X} cmp o x y less e =
      let q : Less ≡ Equal = sym less ∙ subst (λ (v : X). cmp x v ≡ Equal) e (tied_itself o.total x) in
      cc

  name_bytes : (i j : SegmentName × ℕ) → Contains names i → Contains names j → i.0 ≢ j.0 → name_byte name_cmp (slice_cmp nat_cmp) digest i.0 j.0 ≡ name_mark words i.1 j.1
  name_bytes i j c d differ =
      let t = has_is name_cmp name_apart names names_listed.rising test_both i j c d differ in
      let b = has_is name_cmp name_apart names names_listed.rising test_before i j c d differ in
      let a = has_is name_cmp name_apart names names_listed.rising test_before j i d c (λ e. differ (sym e)) in
      let x = has_is name_cmp name_apart names names_listed.rising test_exclusive i j c d differ in
      λ n. pair_byte (t n) (b n) (a n) (x n)

  task_bytes : (i j : List ℕ × ℕ) → Contains tasks i → Contains tasks j → i.0 ≢ j.0 → task_byte name_cmp (slice_cmp nat_cmp) digest i.0 j.0 ≡ task_mark words i.1 j.1
  task_bytes i j c d differ =
      let t = has_is (slice_cmp nat_cmp) text_apart tasks tasks_listed.rising test_shared i j c d differ in
      let b = has_is (slice_cmp nat_cmp) text_apart tasks tasks_listed.rising test_pipe i j c d differ in
      let a = has_is (slice_cmp nat_cmp) text_apart tasks tasks_listed.rising test_pipe j i d c (λ e. differ (sym e)) in
      λ n. pair_byte (t n) (b n) (a n) false

  name_rows : marked_rows (name_mark words) [] names ≡ rows_from (name_byte name_cmp (slice_cmp nat_cmp) digest) [] (texts_of names)
  name_rows = rows_are (name_byte name_cmp (slice_cmp nat_cmp) digest) (name_mark words) [] names (λ i j c d. absurd (nil_has i c))
      (λ m n d lt within. name_bytes (get_or names m d) (get_or names n d) (Contains-get_or names m d (omega (arith, lt, within))) (Contains-get_or names n d within) (rising_differ name_cmp name_apart (get_or names m d).0 (get_or names n d).0 (names_listed.rising m n d lt within)))

  task_rows : marked_rows (task_mark words) [] tasks ≡ rows_from (task_byte name_cmp (slice_cmp nat_cmp) digest) [] (texts_of tasks)
  task_rows = rows_are (task_byte name_cmp (slice_cmp nat_cmp) digest) (task_mark words) [] tasks (λ i j c d. absurd (nil_has i c))
      (λ m n d lt within. task_bytes (get_or tasks m d) (get_or tasks n d) (Contains-get_or tasks m d (omega (arith, lt, within))) (Contains-get_or tasks n d within) (rising_differ (slice_cmp nat_cmp) text_apart (get_or tasks m d).0 (get_or tasks n d).0 (tasks_listed.rising m n d lt within)))

  tasks_of_names : (task : List ℕ) → Contains (texts_of tasks) task ↔ IsTaskOfSome (texts_of names) task
  tasks_of_names task = (
    (λ c.
        let r = from_map task_of (segments_of by_kept kept) task ((tasks_are.exactly task).0 c) in
        (name_of r.0, (names_are.exactly (name_of r.0)).1 (to_map name_of (segments_of by_kept kept) r.0 r.1), r.2)),
    (λ n.
        let r = from_map name_of (segments_of by_kept kept) n.0 ((names_are.exactly n.0).0 n.1) in
        (tasks_are.exactly task).1 (Contains-map task_of (segments_of by_kept kept) r.0 task r.1 (ap (λ (v : SegmentName). v.0) r.2 ∙ n.2))),
  )

  pub kept_table : (traces : ℕ) (days : List ℕ) (task_list : List (List ℕ × List ℕ)) (name_list : List (SegmentName × List ℕ)) → traces ≡ length (traces_in k) → days ≡ map (λ (d : KeptDay). d.day) k.book.days
      → task_list ≡ marked_rows (task_mark words) [] tasks → name_list ≡ marked_rows (name_mark words) [] names → IsKeptTable kept (record { traces = traces; days = days; tasks = task_list; names = name_list })
  kept_table traces days task_list name_list a b c d =
      let count : traces ≡ length kept = a ∙ traces_long in
      let first : task_list ≡ rows_from (task_byte name_cmp (slice_cmp nat_cmp) digest) [] (texts_of tasks) = c ∙ task_rows in
      let second : name_list ≡ rows_from (name_byte name_cmp (slice_cmp nat_cmp) digest) [] (texts_of names) = d ∙ name_rows in
      record {
        digest = digest;
        is = digest_is;
        table = record {
          coherent = coherent by_kept day_of name_cmp (slice_cmp nat_cmp) kept digest digest_is;
          tasks = tasks_of_names;
          table = λ i. record { traces = count i; days = b i; tasks = first i; names = second i };
        };
      }

-- ---- loops
-- one more day
pub one_day : (xs : List KeptDay) (k d : ℕ) → option_map (λ (x : KeptDay). x.day) (slice_get xs k) ≡ Some d → map (λ (x : KeptDay). x.day) (take (k + 1) xs) ≡ map (λ (x : KeptDay). x.day) (take k xs) ++ d ∷ []
one_day [] k d e = cc
one_day (x ∷ xs) zero d e = ap (λ (n : ℕ). n ∷ []) (some_day x.day d e)
  where
    some_day : (m n : ℕ) → Some m ≡ Some n → m ≡ n
    some_day m n q = cc
one_day (x ∷ xs) (suc k) d e =
    let more : suc k + 1 ≡ suc (k + 1) = omega arith in
    ap (λ (n : ℕ). map (λ (y : KeptDay). y.day) (take n (x ∷ xs))) more ∙ ap (λ (l : List ℕ). x.day ∷ l) (one_day xs k d e)

-- the items before one have other numbers, below the limit
pub listed_before : {X : Type 0} (cmp : X → X → Ordering) (limit : ℕ) (items : List (X × ℕ)) → AreItemsBelow cmp limit items → (k : ℕ) (item : X × ℕ) → k < length items → item ≡ get_or items k item → All (λ (i : X × ℕ). (i.1 < limit) × (i.1 ≢ item.1)) (take k items)
listed_before {X} cmp limit items h k item within at j d lt =
    let few = length-take-le k items (omega (arith, within)) in
    let same : get_or (take k items) j d ≡ get_or items j d = get_or-take k items j d (omega (arith, lt, few)) in
    let below : (get_or items j d).1 < limit = h.below j d (omega (arith, lt, few, within)) in
    let here : get_or items k d ≡ item = get_or_default items k d item within ∙ sym at in
    let apart : (get_or items j d).1 ≢ (get_or items k d).1 = h.apart j k d (omega (arith, lt, few)) within in
    subst (λ (i : X × ℕ). (i.1 < limit) × (i.1 ≢ item.1)) (sym same) (below, subst (λ (i : X × ℕ). (get_or items j d).1 ≢ i.1) here apart)

pub number_below : {X : Type 0} (cmp : X → X → Ordering) (limit : ℕ) (items : List (X × ℕ)) → AreItemsBelow cmp limit items → (k : ℕ) (item : X × ℕ) → k < length items → item ≡ get_or items k item → item.1 < limit
number_below {X} cmp limit items h k item within at = subst (λ (i : X × ℕ). i.1 < limit) (sym at) (h.below k item within)
