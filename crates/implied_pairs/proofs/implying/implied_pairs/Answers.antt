use Rattle.std.proofs.Common.{◌≡◌, ◌↔◌, ℕ, ◌<◌, ◌++◌, ◌∷◌, [], true, List, Bool, length, take, get_or, sym, subst, arith}
use Rattle.std.specs.List.{AllZip}
use Rattle.std.proofs.lemmas.List.{take_more}
use Rattle.std.proofs.lemmas.List.Elements.{All-get_or}
use Rattle.evidence_rules.specs.Reaching.{IsImplied}
use Rattle.implied_pairs.specs.inner.Matrices.{HasBetween}
use Rattle.implied_pairs.proofs.ImplyLemmas.{implied_from, implied_to, zip_push}
use Rattle.implied_pairs.proofs.implying.implied_pairs.Goals as goal

pub pairs-preserved : goal.pairs-preserved
pairs-preserved c =
    let count = c.args.count in
    let pairs : List (ℕ × ℕ) = c.args.pairs.now in
    let n = c.pairs.pair-index in
    let p : ℕ × ℕ = get_or pairs n (0, 0) in
    let inside : n < length pairs = omega (arith, c.pairs-test.true) in
    let low = All-get_or (λ (q : ℕ × ℕ). (q.0 < count) × (q.1 < count)) pairs n (0, 0) inside c.requires.below in
    let matrix = c.in_ok-matrix.matrix.items in
    let told = subst (λ (l : List Bool). (c.is_implied.result ≡ true) ↔ HasBetween count l p.0 p.1) c.deref.ensures.value c.is_implied.ensures in
    let is : (c.is_implied.result ≡ true) ↔ IsImplied pairs p.0 p.1 = (
      (λ e. implied_from count pairs c.requires.below matrix c.in_ok-matrix.ensures p.0 p.1 low.0 low.1 (told.0 e)),
      (λ i. told.1 (implied_to count pairs c.requires.below matrix c.in_ok-matrix.ensures p.0 p.1 low.0 low.1 i)),
    ) in
    subst (λ (xs : List (ℕ × ℕ)). AllZip (λ (q : ℕ × ℕ) v. (v ≡ true) ↔ IsImplied pairs q.0 q.1) xs c.push.new.self.items) (sym (take_more pairs n (0, 0) inside))
    (subst (AllZip (λ (q : ℕ × ℕ) v. (v ≡ true) ↔ IsImplied pairs q.0 q.1) (take n pairs ++ p ∷ [])) (sym c.in_ok-push.ensures.items)
    (zip_push (λ (q : ℕ × ℕ) (v : Bool). (v ≡ true) ↔ IsImplied pairs q.0 q.1) (take n pairs) c.pairs.marks.items p c.is_implied.result c.pairs.invariant is))
