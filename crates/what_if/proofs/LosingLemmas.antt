-- The longest length with weights that are not greater.
use Rattle.std.proofs.Common.{◌≡◌, ◌≢◌, ◌⊎◌, ℕ, suc, zero, ◌+◌, ◌-◌, ◌<◌, ◌≤◌, List, [], ◌∷◌, length, get_or, set, All, Contains, arith, refl, sym, ap, subst, ⊎_elim, inl, inr}
use Rattle.std.specs.Prelude.{sum_by}
use Rattle.std.specs.List.{range_with_len}
use Rattle.std.proofs.lemmas.Bool.{cases_lt, cases_order}
use Rattle.std.proofs.lemmas.List.{get_or-set_other, get_or-set_same, length-set}
use Rattle.std.proofs.lemmas.List.Elements.{All-nil, All-cons, All-head, All-tail}
use Rattle.std.proofs.lemmas.List.Sums.{sum_by-cons}
use Rattle.weighted_dag.specs.Chains.{IsChain}
use Rattle.weighted_dag.specs.Graphs.{Graph, IsGraph, order_of, weight_of, with_weights}
use Rattle.weighted_dag.proofs.LengthLemmas.{chain_within}
use Rattle.what_if.specs.ForecastLaws.{LosesNoMore, SlackLosesNothing}

-- the weight of a vertex by a list
abbrev at : List ℕ → ℕ → ℕ
at ws v = get_or ws v 0

module _ (g : Graph) (ws : List ℕ) (same : length ws ≡ order_of g) where
  abbrev h : Graph
  h = with_weights g ws

  -- the same lists are chains
  pub chain_there : (c : List ℕ) → IsChain g c → IsChain h c
  chain_there [] chain = chain
  chain_there (v ∷ []) chain = (subst (λ n. v < n) (sym same) chain.0, chain.1, chain.2)
  chain_there (v ∷ w ∷ c) chain = (subst (λ n. v < n) (sym same) chain.0, chain.1, chain_there (w ∷ c) chain.2)

  pub chain_back : (c : List ℕ) → IsChain h c → IsChain g c
  chain_back [] chain = chain
  chain_back (v ∷ []) chain = (subst (λ n. v < n) same chain.0, chain.1, chain.2)
  chain_back (v ∷ w ∷ c) chain = (subst (λ n. v < n) same chain.0, chain.1, chain_back (w ∷ c) chain.2)

-- sums over lists, term by term
sum_le : (f k : ℕ → ℕ) (c : List ℕ) → All (λ v. f v ≤ k v) c → sum_by f c ≤ sum_by k c
sum_le f k [] le = omega arith
sum_le f k (v ∷ c) le =
    let one = All-head (λ u. f u ≤ k u) v c le in
    let rest = sum_le f k c (All-tail (λ u. f u ≤ k u) v c le) in
    let a = sum_by-cons f v c in
    let b = sum_by-cons k v c in
    omega arith

sum_plus : (f k : ℕ → ℕ) (c : List ℕ) → sum_by (λ v. f v + k v) c ≡ sum_by f c + sum_by k c
sum_plus f k [] = refl
sum_plus f k (v ∷ c) =
    let rest = sum_plus f k c in
    let a = sum_by-cons f v c in
    let b = sum_by-cons k v c in
    let d = sum_by-cons (λ u. f u + k u) v c in
    omega arith

-- numbers from k on, each above the one before it and below n
abbrev Rises : ℕ → ℕ → List ℕ → Type 0
Rises n k [] = Unit {0}
Rises n k (v ∷ c) = (k ≤ v) × (v < n) × Rises n (v + 1) c

chain_rises : (g : Graph) → IsGraph g → (k : ℕ) (c : List ℕ) → IsChain g c → ((v : ℕ) (d : List ℕ) → c ≡ v ∷ d → k ≤ v) → Rises (order_of g) k c
chain_rises g form k [] chain first = tt
chain_rises g form k (v ∷ []) chain first = (first v [] refl, chain.0, tt)
chain_rises g form k (v ∷ w ∷ c) chain first =
    (first v (w ∷ c) refl, chain.0, chain_rises g form (v + 1) (w ∷ c) chain.2 (λ u d e. let up : v < w = form.later v w chain.1 in let same : w ≡ u = cc in omega arith))

-- a sum over rising numbers is at most the sum over all
rising_sum : (f : ℕ → ℕ) (m k : ℕ) (c : List ℕ) → Rises (k + m) k c → sum_by f c ≤ sum_by f (range_with_len k m)
rising_sum f zero k [] up = omega arith
rising_sum f zero k (v ∷ c) up = let l = up.0 in let h = up.1 in absurd (omega arith)
rising_sum f (suc m) k [] up = omega arith
rising_sum f (suc m) k (v ∷ c) up = ⊎_elim
    (λ (here : k ≡ v).
    let rest = rising_sum f m (k + 1) c (subst (λ n. Rises n (k + 1) c) (let e : k + suc m ≡ k + 1 + m = omega arith in e) (subst (λ u. Rises (k + suc m) (u + 1) c) (sym here) up.2)) in
    let a = sum_by-cons f v c in
    let b = range_sum f k m in
    let e : f v ≡ f k = ap f (sym here) in
    omega arith)
    (λ (above : k < v).
    let rest = rising_sum f m (k + 1) (v ∷ c) (subst (λ n. Rises n (k + 1) (v ∷ c)) (let e : k + suc m ≡ k + 1 + m = omega arith in e) (omega arith, up.1, up.2)) in
    let b = range_sum f k m in
    omega arith)
    (le_cases k v up.0)
  where
    le_cases : (a b : ℕ) → a ≤ b → (a ≡ b) ⊎ (a < b)
    le_cases a b le = ⊎_elim (λ (l : a < b). inr l) (λ (ge : b ≤ a). inl (omega arith)) (cases_lt a b)

    range_sum : (f : ℕ → ℕ) (k m : ℕ) → sum_by f (range_with_len k (suc m)) ≡ f k + sum_by f (range_with_len (k + 1) m)
    range_sum f k m = sum_by-cons f k (range_with_len (k + 1) m)

pub loses_no_more : LosesNoMore
loses_no_more g ws before after form less (c, longest, is) (d, other, are) = (
  (let there = longest.none_longer d (chain_back g ws less.count d other.chain) in
      let sums = sum_le (at ws) (weight_of g) d (λ k e lt. less.no_greater (get_or d k e) (chain_within g d (chain_back g ws less.count d other.chain) k e lt)) in
      omega arith),
  (let there = other.none_longer c (chain_there g ws less.count c longest.chain) in
      let sums = sum_le (weight_of g) (λ v. at ws v + lost v) c (λ k e lt. omega arith) in
      let split = sum_plus (at ws) lost c in
      let all = rising_sum lost (order_of g) 0 c (subst (λ n. Rises n 0 c) (let e : order_of g ≡ 0 + order_of g = omega arith in e) (chain_rises g form 0 c longest.chain (λ v e t. omega arith))) in
      omega arith),
)
  where
    lost : ℕ → ℕ
    lost v = weight_of g v - at ws v

-- the vertex is in the list, or all others are
either : (v : ℕ) (c : List ℕ) → Contains c v ⊎ All (λ u. u ≢ v) c
either v [] = inr (All-nil (λ u. u ≢ v))
either v (x ∷ c) = ⊎_elim
    (λ (same : x ≡ v). inl (0, omega arith, same))
    (λ (two : (x < v) ⊎ (v < x)). ⊎_elim
    (λ (there : Contains c v). inl (suc there.0, omega (arith, there.1), there.2))
    (λ (none : All (λ u. u ≢ v) c). inr (All-cons (λ u. u ≢ v) x c (λ e. ⊎_elim (λ (l : x < v). omega arith) (λ (l : v < x). omega arith) two) none))
    (either v c))
    (cases_order x v)

-- a sum over numbers with v, where the term of v is greater by n
more : (f k : ℕ → ℕ) (n v : ℕ) (c : List ℕ) → All (λ u. f u ≤ k u) c → k v ≡ f v + n → Contains c v → sum_by f c + n ≤ sum_by k c
more f k n v [] le up (j, lt, e) = absurd (omega arith)
more f k n v (x ∷ c) le up (zero, lt, e) =
    let rest = sum_le f k c (All-tail (λ u. f u ≤ k u) x c le) in
    let a = sum_by-cons f x c in
    let b = sum_by-cons k x c in
    let same : x ≡ v = e in
    let kx : k x ≡ k v = ap k same in
    let fx : f x ≡ f v = ap f same in
    omega arith
more f k n v (x ∷ c) le up (suc j, lt, e) =
    let one = All-head (λ u. f u ≤ k u) x c le in
    let rest = more f k n v c (All-tail (λ u. f u ≤ k u) x c le) up (j, omega arith, e) in
    let a = sum_by-cons f x c in
    let b = sum_by-cons k x c in
    omega arith

pub slack_loses_nothing : SlackLosesNothing
slack_loses_nothing g ws v slack before after form less others is_slack some here (c, longest, is) (d, other, are) =
    let bounds = loses_no_more g ws before after form less (c, longest, is) (d, other, are) in
    let low = bounds.0 in
    let (most, (c1, longest1, is1), (c2, longest2, is2)) = is_slack.keeps in
    let one = longest1.none_longer c longest.chain in
    let two = longest.none_longer c1 longest1.chain in
    ⊎_elim
    (λ (has : Contains c v).
    let up = more (weight_of g) (at higher) slack v c (λ k e lt. never_less (get_or c k e)) own has in
    let three = longest2.none_longer c (chain_there g higher (length-set g.weights v (weight_of g v + slack)) c longest.chain) in
    absurd (omega arith))
    (λ (none : All (λ u. u ≢ v) c).
    let four = other.none_longer c (chain_there g ws less.count c longest.chain) in
    let sums = sum_le (weight_of g) (at ws) c (λ k e lt. let same = others (get_or c k e) (chain_within g c longest.chain k e lt) (none k e lt) in omega arith) in
    let high : before ≤ after = omega arith in
    omega arith)
    (either v c)
  where
    higher : List ℕ
    higher = set g.weights v (weight_of g v + slack)

    own : at higher v ≡ weight_of g v + slack
    own = get_or-set_same g.weights v (weight_of g v + slack) 0 here

    never_less : (u : ℕ) → weight_of g u ≤ at higher u
    never_less u = ⊎_elim
        (λ (same : u ≡ v). let a : weight_of g u ≡ weight_of g v = ap (weight_of g) same in let b : at higher u ≡ at higher v = ap (at higher) same in let o = own in omega arith)
        (λ (apart : (u < v) ⊎ (v < u)). let o = get_or-set_other g.weights v u (weight_of g v + slack) 0 (λ e. ⊎_elim (λ (l : u < v). omega arith) (λ (l : v < u). omega arith) apart) in omega arith)
        (cases_order u v)
