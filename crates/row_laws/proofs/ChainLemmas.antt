-- Chains over rows by places, and over what rows name.
use Rattle.std.proofs.Common.{◌≡◌, ◌≢◌, ◌↔◌, ℕ, Some, List, [], ◌∷◌, slice_get, map, Contains, AllPairs, ap, ◌∙◌, subst}
use Rattle.trace_types.proofs.ElementLemmas.{one_item, one_place}
use Rattle.evidence_rules.specs.EvidenceRows.{places_of}
use Rattle.evidence_rules.specs.Reaching.{IsChain, IsImplied, Reaches}
use Rattle.evidence_rules.specs.declared.pair_row.PairRow.{PairRow}
use Rattle.implied_pairs.proofs.MatrixLemmas.{reach_after, reach_one, reach_self}
use Rattle.row_laws.specs.NamedRows.{NameInTurn}
use Rattle.row_laws.proofs.NamedLemmas.{pair_of, places_at}

-- ---- chains over pairs, and over more of them
module _ {X : Type 0} (xs ys : List (X × X)) where
  pub reach_by : ((a b : X) → Contains xs (a, b) → Reaches ys a b) → (a b : X) → Reaches xs a b → Reaches ys a b
  reach_by each a b (chain, h) = along chain a h
    where
      along : (chain : List X) (a : X) → IsChain xs a chain b → Reaches ys a b
      along [] a h = subst (Reaches ys a) h (reach_self ys a)
      along (x ∷ chain) a h = reach_after ys a x b (each a x h.0) (along chain x h.1)

  pub reach_more : ((p : X × X) → Contains xs p → Contains ys p) → (a b : X) → Reaches xs a b → Reaches ys a b
  reach_more more = reach_by (λ a b c. reach_one ys a b (more (a, b) c))

-- the same pairs imply the same
pub implied_same : {X : Type 0} (xs ys : List (X × X)) → ((p : X × X) → Contains xs p ↔ Contains ys p) → (a b : X) → IsImplied xs a b → IsImplied ys a b
implied_same {X} xs ys same a b i = record {
  through = i.through;
  to = over a i.through i.to;
  from = over i.through b i.from;
  leaves = λ r. i.leaves (back i.through a r);
  enters = λ r. i.enters (back b i.through r);
}
  where
    over : (a b : X) → Reaches xs a b → Reaches ys a b
    over = reach_more xs ys (λ p. (same p).0)

    back : (a b : X) → Reaches ys a b → Reaches xs a b
    back = reach_more ys xs (λ p. (same p).1)

-- ---- places and names
module _ {X F : Type 0} (xs : List X) (differ : AllPairs (λ x y. x ≢ y) xs) (rows : List (PairRow F)) (pairs : List (X × X)) (turn : NameInTurn xs rows pairs) where
  chain_named : (chain : List ℕ) (i j : ℕ) (a : X) → slice_get xs i ≡ Some a → IsChain (map places_of rows) i chain j → (b : X) × (slice_get xs j ≡ Some b) × Reaches pairs a b
  chain_named [] i j a ai h = (a, subst (λ (k : ℕ). slice_get xs k ≡ Some a) h ai, reach_self pairs a)
  chain_named (x ∷ chain) i j a ai h =
      let p = pair_of xs rows pairs turn i x h.0 in
      let rest = chain_named chain x j p.0.1 p.3 h.1 in
      let first : p.0.0 ≡ a = one_item xs i p.0.0 a p.2 ai in
      (rest.0, rest.1, reach_after pairs a p.0.1 rest.0 (reach_one pairs a p.0.1 (subst (λ (y : X). Contains pairs (y, p.0.1)) first p.1)) rest.2)

  chain_placed : (chain : List X) (a b : X) (i : ℕ) → slice_get xs i ≡ Some a → IsChain pairs a chain b → (j : ℕ) × (slice_get xs j ≡ Some b) × Reaches (map places_of rows) i j
  chain_placed [] a b i ai h = (i, ai ∙ ap Some h, reach_self (map places_of rows) i)
  chain_placed (y ∷ chain) a b i ai h =
      let p = places_at xs rows pairs turn (a, y) h.0 in
      let rest = chain_placed chain y b p.1 p.4 h.1 in
      let first : p.0 ≡ i = one_place xs differ p.0 i a p.3 ai in
      (rest.0, rest.1, reach_after (map places_of rows) i p.1 rest.0 (reach_one (map places_of rows) i p.1 (subst (λ (k : ℕ). Contains (map places_of rows) (k, p.1)) first p.2)) rest.2)

  pub reach_named : (i j : ℕ) (a b : X) → slice_get xs i ≡ Some a → slice_get xs j ≡ Some b → Reaches (map places_of rows) i j ↔ Reaches pairs a b
  reach_named i j a b ai bj = (
    (λ r. let n = chain_named r.0 i j a ai r.1 in subst (Reaches pairs a) (one_item xs j n.0 b n.1 bj) n.2),
    (λ r. let n = chain_placed r.0 a b i ai r.1 in subst (Reaches (map places_of rows) i) (one_place xs differ n.0 j b n.1 bj) n.2),
  )

  pub implied_named : (i j : ℕ) (a b : X) → slice_get xs i ≡ Some a → slice_get xs j ≡ Some b → IsImplied (map places_of rows) i j ↔ IsImplied pairs a b
  implied_named i j a b ai bj = (
    (λ m.
        let n = chain_named m.to.0 i m.through a ai m.to.1 in
        record {
          through = n.0;
          to = n.2;
          from = (reach_named m.through j n.0 b n.1 bj).0 m.from;
          leaves = λ r. m.leaves ((reach_named m.through i n.0 a n.1 ai).1 r);
          enters = λ r. m.enters ((reach_named j m.through b n.0 bj n.1).1 r);
        }),
    (λ m.
        let n = chain_placed m.to.0 a m.through i ai m.to.1 in
        record {
          through = n.0;
          to = n.2;
          from = (reach_named n.0 j m.through b n.1 bj).1 m.from;
          leaves = λ r. m.leaves ((reach_named n.0 i m.through a n.1 ai).0 r);
          enters = λ r. m.enters ((reach_named j n.0 b m.through bj n.1).0 r);
        }),
  )
