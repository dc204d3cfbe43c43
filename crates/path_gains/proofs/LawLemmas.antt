-- Laws on the gains of a graph's vertices.
use Rattle.std.proofs.Common.{◌≡◌, ◌≢◌, ℕ, ◌+◌, ◌/◌, ◌<◌, ◌≤◌, List, [], ◌∷◌, Contains, ⊎_elim, refl, ap, ◌∙◌, subst, arith}
use Rattle.std.proofs.lemmas.Bool.{cases_eq}
use Rattle.std.proofs.lemmas.List.Elements.{Contains-append_right}
use Rattle.std.proofs.lemmas.List.Sums.{sum_by-cons, sum_by-le-sum_by}
use Rattle.path_gains.specs.GainLaws.{GainsAreBounded, GainsAreOne, OthersGainNothing}
use Rattle.path_gains.specs.Gains.{IsLoss, with_weight_at}
use Rattle.path_gains.specs.declared.gain.Gain.{Gain}
use Rattle.path_gains.proofs.WeightLemmas.{weight_here, weight_other, chain_there, chain_back, after_same}
use Rattle.weighted_dag.specs.Chains.{IsChain, IsLongest, IsLongestLength, chain_length}
use Rattle.weighted_dag.specs.Graphs.{Graph, IsGraph, order_of, weight_of}
use Rattle.weighted_dag.proofs.LengthLemmas.{none_longer_than}

-- a graph has one longest length
longest_one : (g : Graph) (n m : ℕ) → IsLongestLength g n → IsLongestLength g m → n ≡ m
longest_one g n m a b =
    let long : IsLongest g a.0 = a.1 in
    let long' : IsLongest g b.0 = b.1 in
    let is : chain_length g a.0 ≡ n = a.2 in
    let is' : chain_length g b.0 ≡ m = b.2 in
    let up = none_longer_than g m b a.0 long.chain in
    let up' = none_longer_than g n a b.0 long'.chain in
    omega arith

module _ (g : Graph) (v : ℕ) where
  -- with a greater weight at v no chain is shorter
  chain_le : v < order_of g → (w w' : ℕ) → w ≤ w' → (c : List ℕ) → chain_length (with_weight_at g v w) c ≤ chain_length (with_weight_at g v w') c
  chain_le inside w w' le c = sum_by-le-sum_by (weight_of (with_weight_at g v w)) (weight_of (with_weight_at g v w')) c (λ x. ⊎_elim
      (λ (e : x ≡ v).
      let a = weight_here g v w inside in
      let b = weight_here g v w' inside in
      let a' : weight_of (with_weight_at g v w) x ≡ weight_of (with_weight_at g v w) v = ap (weight_of (with_weight_at g v w)) e in
      let b' : weight_of (with_weight_at g v w') x ≡ weight_of (with_weight_at g v w') v = ap (weight_of (with_weight_at g v w')) e in
      omega arith)
      (λ (e : x ≢ v). let a = weight_other g v w x e in let b = weight_other g v w' x e in omega arith)
      (cases_eq x v))

  -- a chain loses no more than the weight of v
  chain_loses : IsGraph g → (w : ℕ) → (c : List ℕ) → IsChain g c → chain_length g c ≤ chain_length (with_weight_at g v w) c + weight_of g v
  chain_loses form w [] chain = omega arith
  chain_loses form w (x ∷ c) chain =
      let a = sum_by-cons (weight_of g) x c in
      let b = sum_by-cons (weight_of (with_weight_at g v w)) x c in
      ⊎_elim
      (λ (e : x ≡ v).
      let own : weight_of g x ≡ weight_of g v = ap (weight_of g) e in
      let rest = after_same g v w form x c (omega arith) chain in
      omega arith)
      (λ (e : x ≢ v).
      let same = weight_other g v w x e in
      let rest = chain_loses form w c chain.2 in
      omega arith)
      (cases_eq x v)

  -- a chain without v stays
  chain_stays : (w : ℕ) (c : List ℕ) → ¬ Contains c v → chain_length (with_weight_at g v w) c ≡ chain_length g c
  chain_stays w [] none = refl
  chain_stays w (x ∷ c) none =
      let a = sum_by-cons (weight_of g) x c in
      let b = sum_by-cons (weight_of (with_weight_at g v w)) x c in
      let same = weight_other g v w x (λ (e : x ≡ v). none (subst (λ (z : ℕ). Contains (x ∷ c) z) e (0, omega arith, refl))) in
      let rest = chain_stays w c (λ h. none (Contains-append_right (x ∷ []) c v h)) in
      omega arith

  loss_zero : (c : List ℕ) (w loss : ℕ) → IsLongest g c → ¬ Contains c v → IsLoss g v w loss → loss ≡ 0
  loss_zero c w loss long none is =
      let stays = chain_stays w c none in
      let up = none_longer_than (with_weight_at g v w) is.after is.changed c (chain_there g v w c long.chain) in
      let best : IsLongest g is.before.0 = is.before.1 in
      let length : chain_length g is.before.0 ≡ is.after + loss = is.before.2 in
      let most = long.none_longer is.before.0 best.chain in
      omega arith

  loss_one : (w loss loss' : ℕ) → IsLoss g v w loss → IsLoss g v w loss' → loss ≡ loss'
  loss_one w loss loss' is is' =
      let a = longest_one (with_weight_at g v w) is.after is'.after is.changed is'.changed in
      let b = longest_one g (is.after + loss) (is'.after + loss') is.before is'.before in
      omega arith

pub gains_are_bounded : GainsAreBounded
gains_are_bounded g v gain form inside is =
    let none = is.none in
    let half = is.half in
    let same = longest_one g (none.after + gain.none) (half.after + gain.half) none.before half.before in
    let first : IsLongest (with_weight_at g v 0) none.changed.0 = none.changed.1 in
    let length : chain_length (with_weight_at g v 0) none.changed.0 ≡ none.after = none.changed.2 in
    let more = chain_le g v inside 0 (weight_of g v / 2) (omega arith) none.changed.0 in
    let chain = chain_back g v 0 none.changed.0 first.chain in
    let up = none_longer_than (with_weight_at g v (weight_of g v / 2)) half.after half.changed none.changed.0 (chain_there g v (weight_of g v / 2) none.changed.0 chain) in
    let best : IsLongest g none.before.0 = none.before.1 in
    let most : chain_length g none.before.0 ≡ none.after + gain.none = none.before.2 in
    let loses = chain_loses g v form 0 none.before.0 best.chain in
    let low = none_longer_than (with_weight_at g v 0) none.after none.changed none.before.0 (chain_there g v 0 none.before.0 best.chain) in
    (omega arith, omega arith)

pub others_gain_nothing : OthersGainNothing
others_gain_nothing g c v gain form inside long none is =
    (loss_zero g v c 0 gain.none long none is.none, loss_zero g v c (weight_of g v / 2) gain.half long none is.half)

pub gains_are_one : GainsAreOne
gains_are_one g v gain other is is' = same gain other (loss_one g v 0 gain.none other.none is.none is'.none) (loss_one g v (weight_of g v / 2) gain.half other.half is.half is'.half)
  where
    same : (a b : Gain) → a.none ≡ b.none → a.half ≡ b.half → a ≡ b
    same a b x y = ap (λ (n : ℕ). record { none = n; half = a.half }) x ∙ ap (λ (n : ℕ). record { none = b.none; half = n }) y
