-- The least gap of meetings, and the least grace of a gap.
use Rattle.std.proofs.Common.{◌≡◌, ◌↔◌, ℕ, ◌+◌, ◌*◌, ◌/◌, ◌<◌, ◌≤◌, ℤ, pos, neg_ℤ, ◌≤ℤ◌, ◌<ℤ◌, int_lt, true, false, List, [], ◌∷◌, map, length, get_or, All, ap, sym, ◌∙◌, subst, arith}
use Rattle.std.proofs.lemmas.Int.{ints}
use Rattle.std.proofs.lemmas.List.{get_or-map, length-map}
use Rattle.evidence_rules.specs.Meetings.{IsLeastOf}
use Rattle.evidence_rules.specs.declared.meeting.Meeting.{Meeting}
use Rattle.grace_quality.specs.Graces.{IsLeastGrace}

not_below : (l y b : ℤ) → l ≤ℤ y → int_lt l b ≡ false → int_lt y b ≡ false
not_below l y b le h = grind (arith, ints)

module _ (h : Meeting → ℤ) (b : ℤ) where
  to_least : (ms : List Meeting) (m : Meeting) (least : ℤ) → IsLeastOf (map h (m ∷ ms)) least → All (λ x. int_lt (h x) b ≡ false) (m ∷ ms) → int_lt least b ≡ false
  to_least ms m least (found, each) all =
      let lt : found.0 < length (m ∷ ms) = omega (arith, found.1, length-map (m ∷ ms) h) in
      subst (λ y. int_lt y b ≡ false) (sym (get_or-map h (m ∷ ms) found.0 m least lt) ∙ found.2) (all found.0 m lt)

  to_all : (ms : List Meeting) (m : Meeting) (least : ℤ) → IsLeastOf (map h (m ∷ ms)) least → int_lt least b ≡ false → All (λ x. int_lt (h x) b ≡ false) (m ∷ ms)
  to_all ms m least (found, each) fails = λ k d lt.
      let le = each k least (omega (arith, lt, length-map (m ∷ ms) h)) in
      not_below least (h (get_or (m ∷ ms) k d)) b (subst (λ y. least ≤ℤ y) (get_or-map h (m ∷ ms) k d least lt) le) fails

  -- all pass exactly where the least does
  pub least_tells : (meetings : List Meeting) (least : ℤ) (n : ℕ) → IsLeastOf (map h meetings) least → n ≡ length meetings → 0 < n → All (λ x. int_lt (h x) b ≡ false) meetings ↔ (int_lt least b ≡ false)
  least_tells [] least n is long some = absurd (omega (arith, long, some))
  least_tells (m ∷ ms) least n is long some = (λ all. to_least ms m least is all, λ fails. to_all ms m least is fails)
