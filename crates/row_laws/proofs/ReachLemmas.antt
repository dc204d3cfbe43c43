-- Rows without the implied ones reach the same places.
use Rattle.std.proofs.Common.{◌≡◌, ℕ, ◌+◌, ◌<◌, List, [], ◌∷◌, map, Contains, ap, arith, ⊎_elim}
use Rattle.trace_types.proofs.ListingLemmas.{Contains-nil, cons_cases}
use Rattle.trace_types.proofs.PuttingLemmas.{all_contained}
use Rattle.evidence_rules.specs.EvidenceRows.{places_of}
use Rattle.implied_pairs.specs.Laws.{SameReach}
use Rattle.implied_pairs.specs.Pairs.{AreBelow}
use Rattle.row_laws.specs.ReducedRows.{PlacesReachTheSame}
use Rattle.row_laws.proofs.PlaceLemmas.{not_implied}

-- a number above all of the pairs
abbrev above : List (ℕ × ℕ) → ℕ
above [] = 0
above (p ∷ pairs) = (p.0 + p.1 + 1) + above pairs

below_above : (pairs : List (ℕ × ℕ)) (p : ℕ × ℕ) → Contains pairs p → (p.0 < above pairs) × (p.1 < above pairs)
below_above [] p c = absurd (Contains-nil p c)
below_above (q ∷ pairs) p c = ⊎_elim
    (λ (e : q ≡ p). let e0 : q.0 ≡ p.0 = ap (λ (x : ℕ × ℕ). x.0) e in let e1 : q.1 ≡ p.1 = ap (λ (x : ℕ × ℕ). x.1) e in (omega arith, omega arith))
    (λ (h : Contains pairs p). let r = below_above pairs p h in (omega (arith, r.0), omega (arith, r.1)))
    (cons_cases q pairs p c)

are_below : (pairs : List (ℕ × ℕ)) → AreBelow (above pairs) pairs
are_below pairs = all_contained (λ (p : ℕ × ℕ). (p.0 < above pairs) × (p.1 < above pairs)) pairs (λ p c. below_above pairs p c)

module _ (same : SameReach) where
  pub places_reach : (F : Type 0) → PlacesReachTheSame F
  places_reach F rows left are a b = same (above (map places_of rows)) (map places_of rows) (map places_of left) (are_below (map places_of rows)) (λ x y. not_implied rows left are (x, y)) a b
