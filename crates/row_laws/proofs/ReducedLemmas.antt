-- The orders that are left name those that no others imply, and the same names reach each other.
use Rattle.std.proofs.Common.{◌≡◌, ◌↔◌, ℕ, Some, List, length, slice_get, map, Contains, refl, sym, subst}
use Rattle.trace_types.specs.Segments.{SegmentName}
use Rattle.evidence_rules.specs.EvidenceRows.{is_order, places_of, rows_where, supported}
use Rattle.evidence_rules.specs.Reaching.{IsImplied, Reaches}
use Rattle.evidence_rules.specs.declared.between.Between.{Between}
use Rattle.evidence_rules.specs.declared.pair_row.PairRow.{PairRow}
use Rattle.implied_pairs.specs.Laws.{SameReach}
use Rattle.implied_pairs.proofs.MatrixLemmas.{reach_one}
use Rattle.session_rules.specs.EvidenceTexts.{IsEvidenceText}
use Rattle.session_rules.specs.KeptTraces.{Kept}
use Rattle.row_laws.specs.ModelRows.{TwoNames}
use Rattle.row_laws.specs.NamedRows.{NameExactly, NameInTurn}
use Rattle.row_laws.specs.ReducedRows.{NamesReachTheSame, NotImpliedAreLeft, with_all, without_implied}
use Rattle.row_laws.proofs.ChainLemmas.{implied_named, implied_same, reach_by, reach_more, reach_named}
use Rattle.row_laws.proofs.KeptLemmas.{Told, names_differ, names_listed}
use Rattle.row_laws.proofs.ModelLemmas.{IsOrder, NamesListed, between_traces, order_rows, orders_named, orders_tell, same_named}
use Rattle.row_laws.proofs.NamedLemmas.{name_exactly, named_one, places_at}
use Rattle.row_laws.proofs.PlaceLemmas.{HavePlaces, listed_places, reduced_places}
use Rattle.row_laws.proofs.ReachLemmas.{places_reach}
use Rattle.row_laws.proofs.SortedLemmas.{sorted_places}

module _ (told : Told) (same : SameReach) (least : ℕ) (kept : List Kept) (bytes others : List ℕ)
    (all : IsEvidenceText (with_all least) kept bytes) (left : IsEvidenceText (without_implied least) kept others)
    (pairs : List TwoNames) (turn : NameInTurn all.names all.rows.orders pairs) where
  -- the orders of the second text before any is left out
  abbrev rows : List (PairRow Between)
  rows = rows_where left.between (supported between_traces least is_order) (length left.names)

  abbrev Q : ℕ × ℕ → Type 0
  Q = NamesListed told (without_implied least) kept others left is_order

  have : HavePlaces Q rows
  have = listed_places left.between (supported between_traces least is_order) (length left.names)

  full : NameExactly left.names (IsOrder told (without_implied least) kept others left) rows
  full = orders_named told (without_implied least) kept others left rows have

  -- they are the orders of the first
  same_pairs : (p : TwoNames) → Contains full.pairs p ↔ Contains pairs p
  same_pairs p =
      let first = order_rows told (with_all least) kept bytes all refl in
      let are = named_one all.names all.rows.orders first.pairs pairs first.named turn in (
        (λ c. subst (λ (l : List TwoNames). Contains l p) are ((first.exactly p).1 ((full.exactly p).0 c))),
        (λ c. (full.exactly p).1 ((first.exactly p).0 (subst (λ (l : List TwoNames). Contains l p) (sym are) c))),
      )

  abbrev Left : ℕ × ℕ → Type 0
  Left p = Q p × (IsImplied (map places_of rows) p.0 p.1 → ⊥)

  have_left : HavePlaces Left left.are.orders.left
  have_left = reduced_places rows left.are.orders.left left.are.orders.are_left Q have

  have_sorted : HavePlaces Left left.rows.orders
  have_sorted = sorted_places left.are.orders.left between_traces left.rows.orders left.are.orders.sorted Left have_left

  abbrev IsLeft : TwoNames → Type 0
  IsLeft p = Contains full.pairs p × (IsImplied full.pairs p.0 p.1 → ⊥)

  left_tells : (i j : ℕ) (a b : SegmentName) → slice_get left.names i ≡ Some a → slice_get left.names j ≡ Some b → Left (i, j) ↔ IsLeft (a, b)
  left_tells i j a b ai bj =
      let t = orders_tell told (without_implied least) kept others left i j a b ai bj in
      let m = implied_named left.names (names_differ told (without_implied least) kept others left) rows full.pairs full.named i j a b ai bj in (
        (λ h. ((full.exactly (a, b)).1 (t.0 h.0), λ r. h.1 (m.1 r))),
        (λ h. (t.1 ((full.exactly (a, b)).0 h.0), λ r. h.1 (m.0 r))),
      )

  left_known : (p : TwoNames) → IsLeft p → Contains left.names p.0 × Contains left.names p.1
  left_known p h = names_listed told (without_implied least) kept others left p ((full.exactly p).0 h.0).0.together

  are_left : NameExactly left.names IsLeft left.rows.orders
  are_left = name_exactly left.names (names_differ told (without_implied least) kept others left) Left IsLeft (λ p q. (q.0.0, q.0.1)) left_tells left_known left.rows.orders have_sorted

  pub not_implied_left : NameExactly left.names (λ pair. Contains pairs pair × (IsImplied pairs pair.0 pair.1 → ⊥)) left.rows.orders
  not_implied_left = same_named left.names IsLeft (λ pair. Contains pairs pair × (IsImplied pairs pair.0 pair.1 → ⊥))
      (λ p. (
        (λ h. ((same_pairs p).0 h.0, λ r. h.1 (implied_same pairs full.pairs (λ q. ((same_pairs q).1, (same_pairs q).0)) p.0 p.1 r))),
        (λ h. ((same_pairs p).1 h.0, λ r. h.1 (implied_same full.pairs pairs same_pairs p.0 p.1 r))),
      ))
      left.rows.orders are_left

  module _ (few : List TwoNames) (few_turn : NameInTurn left.names left.rows.orders few) where
    few_in : (p : TwoNames) → Contains few p → Contains pairs p
    few_in p c =
        let are = named_one left.names left.rows.orders few not_implied_left.pairs few_turn not_implied_left.named in
        ((not_implied_left.exactly p).0 (subst (λ (l : List TwoNames). Contains l p) are c)).0

    one_reach : (a b : SegmentName) → Contains pairs (a, b) → Reaches few a b
    one_reach a b c =
        let at = places_at left.names rows full.pairs full.named (a, b) ((same_pairs (a, b)).1 c) in
        let over = (places_reach same Between rows left.are.orders.left left.are.orders.are_left at.0 at.1).0 (reach_one (map places_of rows) at.0 at.1 at.2) in
        let sorted = reach_more (map places_of left.are.orders.left) (map places_of left.rows.orders) (λ p d. (have_sorted.exactly p).1 ((have_left.exactly p).0 d)) at.0 at.1 over in
        (reach_named left.names (names_differ told (without_implied least) kept others left) left.rows.orders few few_turn at.0 at.1 a b at.3 at.4).0 sorted

    pub names_reach : (a b : SegmentName) → Reaches pairs a b ↔ Reaches few a b
    names_reach a b = (reach_by pairs few one_reach a b, reach_more few pairs few_in a b)

pub not_implied_are_left : Told → SameReach → NotImpliedAreLeft
not_implied_are_left told same least kept bytes others all left pairs turn = not_implied_left told same least kept bytes others all left pairs turn

pub names_reach_same : Told → SameReach → NamesReachTheSame
names_reach_same told same least kept bytes others all left pairs few turn few_turn = names_reach told same least kept bytes others all left pairs turn few few_turn
