-- What is decided of the elements of a list can be listed, and so can the relations that kept traces
-- refute.
use Rattle.std.proofs.Common.{◌≡◌, ℕ, List, [], ◌∷◌, map, refl, sym, subst, ⊎_elim, inl, inr, Ordering}
use Rattle.std.specs.declared.cmp.Ordering.TheVariants.{Less, Equal}
use Rattle.std.specs.List.{Contains, flat_map}
use Rattle.std.specs.Cmp.{IsTotalOrder}
use Rattle.std.specs.Cmp.Lexicographic.{slice_cmp}
use Rattle.std.specs.Ordering.{nat_cmp}
use Rattle.certificates.specs.declared.matter.Matter.{Matter}
use Rattle.certificates.specs.declared.matter.Matter.TheVariants.{Before, Exclusive, Pipe}
use Rattle.session_rules.specs.KeptTraces.{Kept, by_kept}
use Rattle.session_rules.specs.Refutations.{AreRefutations, Refutations, RefutesMatter}
use Rattle.trace_types.specs.Listing.{ListsExactly}
use Rattle.trace_types.specs.NameOrder.{name_cmp, pair_cmp}
use Rattle.trace_types.specs.Parts.{segments_of}
use Rattle.trace_types.specs.Pipelines.{TakesOutOfOrder, TakesUnfinished}
use Rattle.trace_types.specs.Segments.{SegmentName, name_of, task_of}
use Rattle.trace_types.specs.Surviving.{IsRefuted}
use Rattle.trace_types.specs.declared.segment.Segment.{Segment}
use Rattle.trace_types.proofs.ComparingLemmas.{both_equal, text_exact, name_exact, text_total}
use Rattle.trace_types.proofs.ListingLemmas.{name_total, pair_total, Contains-nil, Contains-cons, Contains-here, cons_cases}
use Rattle.trace_types.proofs.ElementLemmas.{Contains-map, Contains-flat_map, Contains-from_get}
use Rattle.trace_types.proofs.PairLemmas.{AllPairs-nil}
use Rattle.trace_types.proofs.PuttingLemmas.{put}
use Rattle.certificate_rows.proofs.DecideLemmas.{IsDecided, decided_and, decided_like, less_decided, refutes_decided, some_decided}

-- ---- the elements of a list, in rising order and each once
module _ {X : Type 0} (cmp : X → X → Ordering) (total : IsTotalOrder cmp) (exact : (x y : X) → cmp x y ≡ Equal → x ≡ y) where
  -- the elements of a list that have a decided fact
  module _ (P : X → Type 0) (decide : (x : X) → IsDecided (P x)) where
    -- one more element
    listed_more : (x : X) (xs ys : List X) → ListsExactly cmp (λ z. Contains xs z × P z) ys → IsDecided (P x) → (zs : List X) × ListsExactly cmp (λ z. Contains (x ∷ xs) z × P z) zs
    listed_more x xs ys h (inl has) =
        let p = put cmp total exact x ys h.rising in (
          p.0,
          record {
            rising = p.1.rising;
            exactly = λ z. (
              λ c. ⊎_elim (λ (e : x ≡ z). (Contains-here x xs z e, subst P e has)) (λ (d : Contains ys z). let r = (h.exactly z).0 d in (Contains-cons x xs z r.0, r.1)) ((p.1.same z).0 c),
              λ c. ⊎_elim (λ (e : x ≡ z). (p.1.same z).1 (inl e)) (λ (d : Contains xs z). (p.1.same z).1 (inr ((h.exactly z).1 (d, c.1)))) (cons_cases x xs z c.0),
            );
          },
        )
    listed_more x xs ys h (inr lacks) = (
      ys,
      record {
        rising = h.rising;
        exactly = λ z. (
          λ c. let r = (h.exactly z).0 c in (Contains-cons x xs z r.0, r.1),
          λ c. ⊎_elim (λ (e : x ≡ z). absurd (lacks (subst P (sym e) c.1))) (λ (d : Contains xs z). (h.exactly z).1 (d, c.1)) (cons_cases x xs z c.0),
        );
      },
    )

    listed : (xs : List X) → (ys : List X) × ListsExactly cmp (λ z. Contains xs z × P z) ys
    listed [] = ([], record { rising = AllPairs-nil (λ u v. cmp u v ≡ Less); exactly = λ z. (λ c. absurd (Contains-nil z c), λ c. absurd (Contains-nil z c.0)) })
    listed (x ∷ xs) = let h = listed xs in listed_more x xs h.0 h.1 (decide x)

    -- where only elements of the list have the fact
    pub all_listed : (xs : List X) → ((x : X) → P x → Contains xs x) → (ys : List X) × ListsExactly cmp P ys
    all_listed xs within =
        let h = listed xs in
        (h.0, record { rising = h.1.rising; exactly = λ z. ((λ c. ((h.1.exactly z).0 c).1), (λ p. (h.1.exactly z).1 (within z p, p))) })

-- ---- pairs
pair_exact : {X : Type 0} (cmp : X → X → Ordering) → ((x y : X) → cmp x y ≡ Equal → x ≡ y) → (p q : X × X) → pair_cmp cmp p q ≡ Equal → p ≡ q
pair_exact cmp exact p q e =
    let t = both_equal (cmp p.0 q.0) (cmp p.1 q.1) e in
    let first = exact p.0 q.0 t.0 in
    let second = exact p.1 q.1 t.1 in
    λ k. (first k, second k)

-- all pairs of the elements
all_pairs : {X : Type 0} → List X → List (X × X)
all_pairs xs = flat_map (λ x. map (λ y. (x, y)) xs) xs

in_all_pairs : {X : Type 0} (xs : List X) (p : X × X) → Contains xs p.0 → Contains xs p.1 → Contains (all_pairs xs) p
unfolding all_pairs
in_all_pairs xs p one other = Contains-flat_map (λ x. map (λ y. (x, y)) xs) xs p.0 p one (Contains-map (λ y. (p.0, y)) xs p.1 p other refl)

-- ---- what kept traces refute
refuted_decided : (kept : List Kept) (matter : Matter) → IsDecided (IsRefuted (RefutesMatter matter) kept)
refuted_decided kept matter = decided_like
    (λ (s : (k : Kept) × Contains kept k × RefutesMatter matter k). (s.1.0, s.0, s.1.1, s.1.2, s.2))
    (λ r. (r.1, (r.0, r.2, r.3), r.4))
    (some_decided (RefutesMatter matter) (λ k. refutes_decided k matter) kept)

module _ (kept : List Kept) where
  names : List SegmentName
  names = map name_of (segments_of by_kept kept)

  tasks : List (List ℕ)
  tasks = map task_of (segments_of by_kept kept)

  name_there : (k : Kept) (s : Segment) (a : SegmentName) → Contains kept k → Contains k.trace.segments s → name_of s ≡ a → Contains names a
  unfolding names
  name_there k s a here at e = Contains-map name_of (segments_of by_kept kept) s a (Contains-flat_map (λ (x : Kept). x.trace.segments) kept k s here at) e

  task_there : (k : Kept) (s : Segment) (t : List ℕ) → Contains kept k → Contains k.trace.segments s → task_of s ≡ t → Contains tasks t
  unfolding tasks
  task_there k s t here at e = Contains-map task_of (segments_of by_kept kept) s t (Contains-flat_map (λ (x : Kept). x.trace.segments) kept k s here at) e

  before_within : (p : SegmentName × SegmentName) → IsRefuted (RefutesMatter (Before p.0 p.1)) kept → Contains (all_pairs names) p
  before_within p r = let both = r.4.1 in in_all_pairs names p (name_there r.1 both.0 p.0 (r.0, r.2, r.3) both.2 both.4) (name_there r.1 both.1 p.1 (r.0, r.2, r.3) both.3 both.5)

  exclusive_within : (p : SegmentName × SegmentName) → IsRefuted (RefutesMatter (Exclusive p.0 p.1)) kept → Contains (all_pairs names) p
  exclusive_within p r = let both = r.4.1 in in_all_pairs names p (name_there r.1 both.0 p.0 (r.0, r.2, r.3) both.2 both.4) (name_there r.1 both.1 p.1 (r.0, r.2, r.3) both.3 both.5)

  pipe_within : (p : List ℕ × List ℕ) → IsRefuted (RefutesMatter (Pipe p.0 p.1)) kept → Contains (all_pairs tasks) p
  pipe_within p r =
      let k = r.1 in
      let here : Contains kept k = (r.0, r.2, r.3) in
      ⊎_elim
      (λ (h : TakesUnfinished by_kept p.0 p.1 k). in_all_pairs tasks p
      (task_there k h.given p.0 here (Contains-from_get k.trace.segments h.giver h.given h.ends.handles.segment) h.ends.handles.task)
      (task_there k h.taken p.1 here (Contains-from_get k.trace.segments h.taker h.taken h.starts.handles.segment) h.starts.handles.task))
      (λ (h : TakesOutOfOrder by_kept p.0 p.1 k). in_all_pairs tasks p
      (task_there k h.in_order.s p.0 here (Contains-from_get k.trace.segments h.in_order.earlier h.in_order.s h.in_order.first.handles.segment) h.in_order.first.handles.task)
      (task_there k h.turned.s p.1 here (Contains-from_get k.trace.segments h.turned.earlier h.turned.s h.turned.first.handles.segment) h.turned.first.handles.task))
      r.4.1

  pub refutations_of : (refuted : Refutations) × AreRefutations kept refuted
  refutations_of =
      let before = all_listed (pair_cmp name_cmp) (pair_total name_cmp name_total) (pair_exact name_cmp name_exact) (λ p. IsRefuted (RefutesMatter (Before p.0 p.1)) kept) (λ p. refuted_decided kept (Before p.0 p.1)) (all_pairs names) before_within in
      let exclusive = all_listed (pair_cmp name_cmp) (pair_total name_cmp name_total) (pair_exact name_cmp name_exact) (λ p. (name_cmp p.0 p.1 ≡ Less) × IsRefuted (RefutesMatter (Exclusive p.0 p.1)) kept)
      (λ p. decided_and (less_decided (name_cmp p.0 p.1)) (refuted_decided kept (Exclusive p.0 p.1))) (all_pairs names) (λ p r. exclusive_within p r.1) in
      let pipe = all_listed (pair_cmp (slice_cmp nat_cmp)) (pair_total (slice_cmp nat_cmp) text_total) (pair_exact (slice_cmp nat_cmp) text_exact) (λ p. IsRefuted (RefutesMatter (Pipe p.0 p.1)) kept) (λ p. refuted_decided kept (Pipe p.0 p.1)) (all_pairs tasks) pipe_within in
      (record { before = before.0; exclusive = exclusive.0; pipe = pipe.0 }, record { before = before.1; exclusive = exclusive.1; pipe = pipe.1 })
