-- Kept traces have a digest: what some of them refute is decided, so it can be listed.
use Rattle.std.proofs.Common.{◌≡◌, ◌≢◌, ℕ, List, [], length, map, Option, Some, None, refl, sym, ap, ◌∙◌, ⊎_elim, inl, inr, Ordering}
use Rattle.std.specs.List.{Contains, flat_map, slice_get}
use Rattle.std.specs.declared.cmp.Ordering.TheVariants.{Less}
use Rattle.std.specs.Cmp.Lexicographic.{slice_cmp}
use Rattle.std.specs.Ordering.{nat_cmp}
use Rattle.std.proofs.lemmas.Option.{none-some, same_Some, slice_get_read}
use Rattle.certificates.specs.declared.matter.Matter.TheVariants.{Before, Exclusive, Pipe}
use Rattle.certificate_rows.proofs.DecideLemmas.{IsDecided, decided_and, decided_like, decided_not, name_decided, refutes_decided, some_decided, text_decided}
use Rattle.certificate_rows.proofs.ListedLemmas.{all_listed}
use Rattle.digest_facts.specs.Digests.{Digest, TellsApart, union}
use Rattle.digest_facts.specs.DigestsOfTraces.{IsPairIn}
use Rattle.digest_facts.proofs.MergeLemmas.{name_apart, nat_apart, pair_apart, text_apart}
use Rattle.digest_facts.proofs.UnionLemmas.{nil_has, union_has, union_rises}
use Rattle.session_rules.specs.GivenDigests.{IsKeptDigest}
use Rattle.session_rules.specs.KeptTraces.{Kept, by_kept, day_of}
use Rattle.trace_types.proofs.ElementLemmas.{Contains-flat_map, Contains-from_get, Contains-map}
use Rattle.trace_types.proofs.PairLemmas.{AllPairs-nil}
use Rattle.trace_types.specs.Listing.{ListsExactly}
use Rattle.trace_types.specs.NameOrder.{name_cmp, pair_cmp}
use Rattle.trace_types.specs.Parts.{segments_of}
use Rattle.trace_types.specs.Pipelines.{RefutesPipe, RefutesUnshared, TakesOutOfOrder, TakesUnfinished}
use Rattle.trace_types.specs.Refuting.{RefutesApart, RefutesBefore, RefutesExclusive}
use Rattle.trace_types.specs.Segments.{SegmentName, name_of, task_of}
use Rattle.trace_types.specs.Surviving.{IsRefuted}
use Rattle.trace_types.specs.declared.segment.Segment.{Segment}

-- ---- the elements of a list, each once and in order
listed : {X : Type 0} (cmp : X → X → Ordering) → TellsApart cmp → (xs : List X) → ListsExactly cmp (Contains xs) (union cmp xs [])
listed cmp o xs = record {
  rising = union_rises cmp o xs [] (AllPairs-nil (λ x y. cmp x y ≡ Less));
  exactly = λ x. (
    (λ c. ⊎_elim (λ (h : Contains xs x). h) (λ (h : Contains [] x). absurd (nil_has x h)) ((union_has cmp o xs [] x).0 c)),
    (λ c. (union_has cmp o xs [] x).1 (inl c)),
  );
}

-- all pairs of elements
abbrev all_pairs : {X : Type 0} → List X → List (X × X)
all_pairs xs = flat_map (λ x. map (λ y. (x, y)) xs) xs

in_all_pairs : {X : Type 0} (xs : List X) (p : X × X) → Contains xs p.0 → Contains xs p.1 → Contains (all_pairs xs) p
in_all_pairs xs p one other = Contains-flat_map (λ x. map (λ y. (x, y)) xs) xs p.0 p one (Contains-map (λ y. (p.0, y)) xs p.1 p other refl)

-- ---- what some kept trace refutes of two different things
some_refutes : (R : Kept → Type 0) → ((k : Kept) → IsDecided (R k)) → (kept : List Kept) → IsDecided (IsRefuted R kept)
some_refutes R decide kept = decided_like
    (λ (s : (k : Kept) × Contains kept k × R k). (s.1.0, s.0, s.1.1, s.1.2, s.2))
    (λ r. (r.1, (r.0, r.2, r.3), r.4))
    (some_decided R decide kept)

pair_decided : {X : Type 0} (a b : X) (R : Kept → Type 0) → ((k : Kept) → IsDecided ((a ≢ b) × R k)) → (kept : List Kept) → IsDecided ((a ≢ b) × IsRefuted R kept)
pair_decided a b R decide kept = decided_like
    (λ (r : IsRefuted (λ k. (a ≢ b) × R k) kept). (r.4.0, (r.0, r.1, r.2, r.3, r.4.1)))
    (λ h. (h.1.0, h.1.1, h.1.2, h.1.3, (h.0, h.1.4)))
    (some_refutes (λ k. (a ≢ b) × R k) decide kept)

-- ---- two names of one trace
module _ (k : Kept) where
  abbrev HasName : SegmentName → Type 0
  HasName a = (s : Segment) × Contains k.trace.segments s × (name_of s ≡ a)

  name_had : (a : SegmentName) → IsDecided (HasName a)
  name_had a = some_decided (λ s. name_of s ≡ a) (λ s. name_decided (name_of s) a) k.trace.segments

  apart_decided : (a b : SegmentName) → IsDecided ((a ≢ b) × RefutesApart by_kept a b k)
  apart_decided a b = decided_and (decided_not (name_decided a b)) (decided_like
      (λ (h : HasName a × HasName b). let one = h.0 in let other = h.1 in (one.0, other.0, one.1, other.1, one.2, other.2, tt))
      (λ h. ((h.0, h.2, h.4), (h.1, h.3, h.5)))
      (decided_and (name_had a) (name_had b)))

  -- ---- an element of two segments
  element_decided : (o : Option (List ℕ)) (e : List ℕ) → IsDecided (o ≡ Some e)
  element_decided None e = inr (λ h. none-some e h)
  element_decided (Some x) e = decided_like (λ h. ap (λ (v : List ℕ). Some v) h) (λ h. same_Some x e h) (text_decided x e)

  abbrev ShareOne : Segment → Segment → Type 0
  ShareOne s r = (e : List ℕ) × (s.element ≡ Some e) × (r.element ≡ Some e)

  share_decided : (s r : Segment) → IsDecided (ShareOne s r)
  share_decided s r = by s.element refl
    where
      by : (o : Option (List ℕ)) → s.element ≡ o → IsDecided (ShareOne s r)
      by None none = inr (λ h. none-some h.0 (sym none ∙ h.1))
      by (Some e) some = decided_like (λ (h : r.element ≡ Some e). (e, some, h)) (λ h. h.2 ∙ sym h.1 ∙ some) (element_decided r.element e)

  abbrev TakesWith : List ℕ → Segment → Segment → Type 0
  TakesWith u s r = (task_of r ≡ u) × ShareOne s r

  abbrev GivesWith : List ℕ → List ℕ → Segment → Type 0
  GivesWith t u s = (task_of s ≡ t) × ((r : Segment) × Contains k.trace.segments r × TakesWith u s r)

  abbrev SomeGives : List ℕ → List ℕ → Type 0
  SomeGives t u = (s : Segment) × Contains k.trace.segments s × GivesWith t u s

  gives_decided : (t u : List ℕ) → IsDecided (SomeGives t u)
  gives_decided t u = some_decided (GivesWith t u)
      (λ s. decided_and (text_decided (task_of s) t) (some_decided (TakesWith u s) (λ r. decided_and (text_decided (task_of r) u) (share_decided s r)) k.trace.segments))
      k.trace.segments

  to_shared : (t u : List ℕ) → SomeGives t u → RefutesUnshared by_kept t u k
  to_shared t u h =
      let s : Segment = h.0 in
      let at : Contains k.trace.segments s = h.1 in
      let more : (r : Segment) × Contains k.trace.segments r × TakesWith u s r = h.2.1 in
      let r : Segment = more.0 in
      let there : Contains k.trace.segments r = more.1 in
      let one : ShareOne s r = more.2.1 in
      record {
        element = one.0;
        k = at.0;
        l = there.0;
        s = s;
        r = r;
        one = record { segment = slice_get_read k.trace.segments (length k.trace.segments) at.0 s refl at.1 (sym at.2); task = h.2.0; element = one.1 };
        other = record { segment = slice_get_read k.trace.segments (length k.trace.segments) there.0 r refl there.1 (sym there.2); task = more.2.0; element = one.2 };
      }

  from_shared : (t u : List ℕ) → RefutesUnshared by_kept t u k → SomeGives t u
  from_shared t u h = (
    h.s,
    Contains-from_get k.trace.segments h.k h.s h.one.segment,
    (h.one.task, (h.r, Contains-from_get k.trace.segments h.l h.r h.other.segment, (h.other.task, (h.element, h.one.element, h.other.element)))),
  )

  shared_decided : (t u : List ℕ) → IsDecided ((t ≢ u) × RefutesUnshared by_kept t u k)
  shared_decided t u = decided_and (decided_not (text_decided t u)) (decided_like (to_shared t u) (from_shared t u) (gives_decided t u))

-- ---- the digest
module _ (kept : List Kept) where
  names : List SegmentName
  names = map name_of (segments_of by_kept kept)

  tasks : List (List ℕ)
  tasks = map task_of (segments_of by_kept kept)

  names_there : (p : SegmentName × SegmentName) (k : Kept) (s t : Segment) → Contains kept k → Contains k.trace.segments s → Contains k.trace.segments t → name_of s ≡ p.0 → name_of t ≡ p.1 → Contains (all_pairs names) p
  unfolding names
  names_there p k s t here one other e f = in_all_pairs (map name_of (segments_of by_kept kept)) p
      (Contains-map name_of (segments_of by_kept kept) s p.0 (Contains-flat_map (λ (x : Kept). x.trace.segments) kept k s here one) e)
      (Contains-map name_of (segments_of by_kept kept) t p.1 (Contains-flat_map (λ (x : Kept). x.trace.segments) kept k t here other) f)

  tasks_there : (p : List ℕ × List ℕ) (k : Kept) (i j : ℕ) (s t : Segment) → Contains kept k → slice_get k.trace.segments i ≡ Some s → slice_get k.trace.segments j ≡ Some t → task_of s ≡ p.0 → task_of t ≡ p.1 → Contains (all_pairs tasks) p
  unfolding tasks
  tasks_there p k i j s t here one other e f = in_all_pairs (map task_of (segments_of by_kept kept)) p
      (Contains-map task_of (segments_of by_kept kept) s p.0 (Contains-flat_map (λ (x : Kept). x.trace.segments) kept k s here (Contains-from_get k.trace.segments i s one)) e)
      (Contains-map task_of (segments_of by_kept kept) t p.1 (Contains-flat_map (λ (x : Kept). x.trace.segments) kept k t here (Contains-from_get k.trace.segments j t other)) f)

  abbrev Names : (SegmentName → SegmentName → Kept → Type 0) → SegmentName × SegmentName → Type 0
  Names R = IsPairIn (λ a b. IsRefuted (R a b) kept)

  abbrev Tasks : (List ℕ → List ℕ → Kept → Type 0) → List ℕ × List ℕ → Type 0
  Tasks R = IsPairIn (λ a b. IsRefuted (R a b) kept)

  list_names : (R : SegmentName → SegmentName → Kept → Type 0) → ((a b : SegmentName) (k : Kept) → IsDecided ((a ≢ b) × R a b k)) → ((p : SegmentName × SegmentName) → Names R p → Contains (all_pairs names) p)
      → (ps : List (SegmentName × SegmentName)) × ListsExactly (pair_cmp name_cmp) (Names R) ps
  list_names R decide within =
      let o = pair_apart name_cmp name_apart in
      all_listed (pair_cmp name_cmp) o.total o.one (Names R) (λ p. pair_decided p.0 p.1 (R p.0 p.1) (decide p.0 p.1) kept) (all_pairs names) within

  list_tasks : (R : List ℕ → List ℕ → Kept → Type 0) → ((t u : List ℕ) (k : Kept) → IsDecided ((t ≢ u) × R t u k)) → ((p : List ℕ × List ℕ) → Tasks R p → Contains (all_pairs tasks) p)
      → (ps : List (List ℕ × List ℕ)) × ListsExactly (pair_cmp (slice_cmp nat_cmp)) (Tasks R) ps
  list_tasks R decide within =
      let o = pair_apart (slice_cmp nat_cmp) text_apart in
      all_listed (pair_cmp (slice_cmp nat_cmp)) o.total o.one (Tasks R) (λ p. pair_decided p.0 p.1 (R p.0 p.1) (decide p.0 p.1) kept) (all_pairs tasks) within

  before_there : (p : SegmentName × SegmentName) → Names (RefutesBefore by_kept) p → Contains (all_pairs names) p
  before_there p h = let r = h.1 in let both = r.4 in names_there p r.1 both.0 both.1 (r.0, r.2, r.3) both.2 both.3 both.4 both.5

  exclusive_there : (p : SegmentName × SegmentName) → Names (RefutesExclusive by_kept) p → Contains (all_pairs names) p
  exclusive_there p h = let r = h.1 in let both = r.4 in names_there p r.1 both.0 both.1 (r.0, r.2, r.3) both.2 both.3 both.4 both.5

  apart_there : (p : SegmentName × SegmentName) → Names (RefutesApart by_kept) p → Contains (all_pairs names) p
  apart_there p h = let r = h.1 in let both = r.4 in names_there p r.1 both.0 both.1 (r.0, r.2, r.3) both.2 both.3 both.4 both.5

  shared_there : (p : List ℕ × List ℕ) → Tasks (RefutesUnshared by_kept) p → Contains (all_pairs tasks) p
  shared_there p h = let r = h.1 in let both = r.4 in tasks_there p r.1 both.k both.l both.s both.r (r.0, r.2, r.3) both.one.segment both.other.segment both.one.task both.other.task

  pipe_there : (p : List ℕ × List ℕ) → Tasks (RefutesPipe by_kept) p → Contains (all_pairs tasks) p
  pipe_there p h =
      let r = h.1 in
      let here : Contains kept r.1 = (r.0, r.2, r.3) in
      ⊎_elim
      (λ (x : TakesUnfinished by_kept p.0 p.1 r.1). tasks_there p r.1 x.giver x.taker x.given x.taken here x.ends.handles.segment x.starts.handles.segment x.ends.handles.task x.starts.handles.task)
      (λ (x : TakesOutOfOrder by_kept p.0 p.1 r.1). tasks_there p r.1 x.in_order.earlier x.turned.earlier x.in_order.s x.turned.s here x.in_order.first.handles.segment x.turned.first.handles.segment x.in_order.first.handles.task x.turned.first.handles.task)
      r.4

  pub has_digest : (digest : Digest SegmentName (List ℕ)) × IsKeptDigest kept digest
  has_digest =
      let together = list_names (RefutesApart by_kept) (λ a b k. apart_decided k a b) apart_there in
      let before = list_names (RefutesBefore by_kept) (λ a b k. refutes_decided k (Before a b)) before_there in
      let exclusive = list_names (RefutesExclusive by_kept) (λ a b k. refutes_decided k (Exclusive a b)) exclusive_there in
      let shared = list_tasks (RefutesUnshared by_kept) (λ t u k. shared_decided k t u) shared_there in
      let pipe = list_tasks (RefutesPipe by_kept) (λ t u k. refutes_decided k (Pipe t u)) pipe_there in (
        record {
          traces = length kept;
          days = union nat_cmp (map day_of kept) [];
          names = union name_cmp (map name_of (segments_of by_kept kept)) [];
          tasks = union (slice_cmp nat_cmp) (map task_of (segments_of by_kept kept)) [];
          together = together.0;
          before = before.0;
          exclusive = exclusive.0;
          shared = shared.0;
          pipe = pipe.0;
        },
        record {
          count = refl;
          days = listed nat_cmp nat_apart (map day_of kept);
          names = listed name_cmp name_apart (map name_of (segments_of by_kept kept));
          tasks = listed (slice_cmp nat_cmp) text_apart (map task_of (segments_of by_kept kept));
          together = together.1;
          before = before.1;
          exclusive = exclusive.1;
          shared = shared.1;
          pipe = pipe.1;
        },
      )
