-- Without the implied pairs the same numbers reach each other: by how many numbers stand between.
use Rattle.std.proofs.Common.{◌≡◌, ◌⊎◌, ◌↔◌, ℕ, zero, suc, ◌+◌, ◌<◌, ◌≤◌, Bool, true, false, not, cond, eqb, ◌&&◌, ◌||◌, List, [], ◌∷◌, ◌++◌, length, get_or, Contains, refl, sym, ap, ◌∙◌, subst, arith, inl, inr, ⊎_elim}
use Rattle.std.specs.List.{list_any, range_with_len}
use Rattle.std.proofs.lemmas.Bool.{cases_eq, cases_lt, eq-eqb, eqb-true}
use Rattle.evidence_rules.specs.Reaching.{IsChain, IsImplied, Reaches}
use Rattle.implied_pairs.specs.Laws.{AreNotImplied, SameReach}
use Rattle.implied_pairs.specs.Pairs.{AreBelow}
use Rattle.implied_pairs.proofs.MatrixLemmas.{Closing, and_first, and_second, both_true, chain_below, closed, closing_more, or_cases, or_left, or_right, pair_below, reach_after, reach_one, reach_self}

-- 1 where it is true
abbrev one_if : Bool → ℕ
one_if true = 1
one_if false = 0

-- ---- whether one number reaches another, computed
abbrev is_pair : List (ℕ × ℕ) → ℕ → ℕ → Bool
is_pair [] a b = false
is_pair (p ∷ ps) a b = (eqb p.0 a && eqb p.1 b) || is_pair ps a b

pair_is : (ps : List (ℕ × ℕ)) (a b : ℕ) (k : ℕ) → k < length ps → get_or ps k (a, b) ≡ (a, b) → is_pair ps a b ≡ true
pair_is [] a b k l e = absurd (omega arith)
pair_is (p ∷ ps) a b zero l e = or_left (eqb p.0 a && eqb p.1 b) (is_pair ps a b) (both_true (eqb p.0 a) (eqb p.1 b) (eq-eqb p.0 a (ap (λ (q : ℕ × ℕ). q.0) e)) (eq-eqb p.1 b (ap (λ (q : ℕ × ℕ). q.1) e)))
pair_is (p ∷ ps) a b (suc k) l e = or_right (eqb p.0 a && eqb p.1 b) (is_pair ps a b) (pair_is ps a b k (omega arith) e)

is_pair_in : (ps : List (ℕ × ℕ)) (a b : ℕ) → is_pair ps a b ≡ true → (k : ℕ) × (k < length ps) × (get_or ps k (a, b) ≡ (a, b))
is_pair_in [] a b e = absurd (let f : false ≡ true = e in cc)
is_pair_in (p ∷ ps) a b e = ⊎_elim
    (λ (h : (eqb p.0 a && eqb p.1 b) ≡ true).
    let x : p.0 ≡ a = eqb-true p.0 a (and_first (eqb p.0 a) (eqb p.1 b) h) in
    let y : p.1 ≡ b = eqb-true p.1 b (and_second (eqb p.0 a) (eqb p.1 b) h) in
    (0, omega arith, λ i. (x i, y i)))
    (λ (h : is_pair ps a b ≡ true). let r = is_pair_in ps a b h in (suc r.0, omega (arith, r.1), r.2))
    (or_cases (eqb p.0 a && eqb p.1 b) (is_pair ps a b) e)

abbrev reaches_by : List (ℕ × ℕ) → ℕ → ℕ → ℕ → Bool
reaches_by pairs zero a b = eqb a b || is_pair pairs a b
reaches_by pairs (suc n) a b = reaches_by pairs n a b || (reaches_by pairs n a n && reaches_by pairs n n b)

module _ (count : ℕ) (pairs : List (ℕ × ℕ)) (below : AreBelow count pairs) where
  closing_by : (n : ℕ) → n ≤ count → Closing count pairs n (reaches_by pairs n)
  closing_by zero l = record {
    reflexive = λ a ha. or_left (eqb a a) (is_pair pairs a a) (eq-eqb a a refl);
    has = λ a b c. or_right (eqb a b) (is_pair pairs a b) (pair_is pairs a b c.0 c.1 c.2);
    sound = λ a b ha hb e. ⊎_elim
        (λ (h : eqb a b ≡ true). subst (Reaches pairs a) (eqb-true a b h) (reach_self pairs a))
        (λ (h : is_pair pairs a b ≡ true). reach_one pairs a b (is_pair_in pairs a b h))
        (or_cases (eqb a b) (is_pair pairs a b) e);
    passes = λ m a b h ha hb d e. absurd (omega arith);
  }
  closing_by (suc n) l = subst (λ (k : ℕ). Closing count pairs k (reaches_by pairs (suc n))) (omega arith)
      (closing_more count pairs below n (omega arith) (reaches_by pairs n) (reaches_by pairs (suc n)) (closing_by n (omega arith)) (λ a b ha hb. refl))

  -- whether the one reaches the other
  abbrev reaches : ℕ → ℕ → Bool
  reaches a b = reaches_by pairs count a b

  reaches_is : (a b : ℕ) → a < count → b < count → (reaches a b ≡ true) ↔ Reaches pairs a b
  reaches_is a b ha hb = closed count pairs below count reaches (omega arith) (closing_by count (omega arith)) a b ha hb

  -- ---- how many numbers stand between two
  abbrev stands_between : ℕ → ℕ → ℕ → Bool
  stands_between a b d = reaches a d && reaches d b

  abbrev number_between : ℕ → ℕ → ℕ → ℕ
  number_between a b zero = 0
  number_between a b (suc n) = number_between a b n + one_if (stands_between a b n)

  module _ (a b c e : ℕ) (more : (d : ℕ) → d < count → stands_between a b d ≡ true → stands_between c e d ≡ true) where
    one_at_most : (d : ℕ) → d < count → one_if (stands_between a b d) ≤ one_if (stands_between c e d)
    one_at_most d hd = by (stands_between a b d) (stands_between c e d) (more d hd)
      where
        by : (x y : Bool) → (x ≡ true → y ≡ true) → one_if x ≤ one_if y
        by true true h = omega arith
        by true false h = absurd (let f : false ≡ true = h refl in cc)
        by false y h = omega arith

    at_most : (n : ℕ) → n ≤ count → number_between a b n ≤ number_between c e n
    at_most zero l = omega arith
    at_most (suc n) l = let so = at_most n (omega arith) in let one = one_at_most n (omega arith) in omega arith

    fewer : (x : ℕ) → x < count → stands_between a b x ≡ false → stands_between c e x ≡ true → (n : ℕ) → n ≤ count → x < n → number_between a b n < number_between c e n
    fewer x hx out within zero l h = absurd (omega arith)
    fewer x hx out within (suc n) l h = ⊎_elim
        (λ (lower : x < n). let so = fewer x hx out within n (omega arith) lower in let one = one_at_most n (omega arith) in omega arith)
        (λ (high : n ≤ x).
        let same : x ≡ n = omega arith in
        let so = at_most n (omega arith) in
        let p : one_if (stands_between a b n) ≡ 0 = subst (λ (k : ℕ). one_if (stands_between a b k) ≡ 0) same (ap one_if out) in
        let q : one_if (stands_between c e n) ≡ 1 = subst (λ (k : ℕ). one_if (stands_between c e k) ≡ 1) same (ap one_if within) in
        omega arith)
        (cases_lt x n)

  -- ---- over what is left
  module _ (left : List (ℕ × ℕ)) (are : AreNotImplied pairs left) where
    -- whether a pair is implied, by a number below a limit
    module _ (a b : ℕ) (ha : a < count) (hb : b < count) where
      abbrev implies : ℕ → Bool
      implies c = (reaches a c && reaches c b) && (not (reaches c a) && not (reaches b c))

      find : (n : ℕ) → n ≤ count → ((c : ℕ) × (c < count) × (implies c ≡ true)) ⊎ ((c : ℕ) → c < n → implies c ≡ false)
      find zero l = inr (λ c h. absurd (omega arith))
      find (suc n) l = ⊎_elim (λ (f : (c : ℕ) × (c < count) × (implies c ≡ true)). inl f)
          (λ (none : (c : ℕ) → c < n → implies c ≡ false). by none (implies n) refl)
          (find n (omega arith))
        where
          by : ((c : ℕ) → c < n → implies c ≡ false) → (x : Bool) → implies n ≡ x → ((c : ℕ) × (c < count) × (implies c ≡ true)) ⊎ ((c : ℕ) → c < suc n → implies c ≡ false)
          by none true e = inl (n, omega arith, e)
          by none false e = inr (λ c h. ⊎_elim (λ (lower : c < n). none c lower) (λ (high : n ≤ c). let same : n ≡ c = omega arith in subst (λ (k : ℕ). implies k ≡ false) same e) (cases_lt c n))

      yes_not : (x : Bool) → (x ≡ true → ⊥) → not x ≡ true
      yes_not true h = absurd (h refl)
      yes_not false h = refl

      no_not : (x : Bool) → not x ≡ true → x ≡ true → ⊥
      no_not true e f = let g : false ≡ true = e in cc
      no_not false e f = let g : false ≡ true = f in cc

      -- where none implies it, it is not implied
      not_implied : ((c : ℕ) → c < count → implies c ≡ false) → IsImplied pairs a b → ⊥
      not_implied none i =
          let c = i.through in
          let hc = chain_below count pairs below a c i.to.0 ha i.to.1 in
          let all = both_true (reaches a c && reaches c b) (not (reaches c a) && not (reaches b c))
          (both_true (reaches a c) (reaches c b) ((reaches_is a c ha hc).1 i.to) ((reaches_is c b hc hb).1 i.from))
          (both_true (not (reaches c a)) (not (reaches b c)) (yes_not (reaches c a) (λ e. i.leaves ((reaches_is c a hc ha).0 e))) (yes_not (reaches b c) (λ e. i.enters ((reaches_is b c hb hc).0 e)))) in
          let f : false ≡ true = sym (none c hc) ∙ all in cc

    -- a chain is followed over what is left, where each of its pairs is
    along : (n : ℕ) → ((a b : ℕ) → Contains pairs (a, b) → number_between a b count ≤ n → Reaches left a b) → (xs : List ℕ) (a b : ℕ) → a < count → b < count → IsChain pairs a xs b → number_between a b count ≤ n → Reaches left a b
    along n each [] a b ha hb h few = subst (Reaches left a) h (reach_self left a)
    along n each (x ∷ xs) a b ha hb h few =
        let hx = (pair_below count pairs below a x h.0).1 in
        let ax : Reaches pairs a x = reach_one pairs a x h.0 in
        let xb : Reaches pairs x b = (xs, h.1) in
        let first = at_most a x a b (λ d hd s. both_true (reaches a d) (reaches d b) (and_first (reaches a d) (reaches d x) s)
        ((reaches_is d b hd hb).1 (reach_after pairs d x b ((reaches_is d x hd hx).0 (and_second (reaches a d) (reaches d x) s)) xb))) count (omega arith) in
        let rest = at_most x b a b (λ d hd s. both_true (reaches a d) (reaches d b)
        ((reaches_is a d ha hd).1 (reach_after pairs a x d ax ((reaches_is x d hx hd).0 (and_first (reaches x d) (reaches d b) s))))
        (and_second (reaches x d) (reaches d b) s)) count (omega arith) in
        reach_after left a x b (each a x h.0 (omega arith)) (along n each xs x b hx hb h.1 (omega arith))

    -- each pair is reached over what is left, where so many numbers stand between
    each_pair : (n a b : ℕ) → Contains pairs (a, b) → number_between a b count ≤ n → Reaches left a b
    each_pair zero a b c few =
        let h = pair_below count pairs below a b c in
        -- the first number itself stands between
        absurd (omega (arith, some a b h.0 h.1 (reach_one pairs a b c)))
      where
        some : (a b : ℕ) → a < count → b < count → Reaches pairs a b → 0 < number_between a b count
        some a b ha hb r = counted a b ha (both_true (reaches a a) (reaches a b) ((reaches_is a a ha ha).1 (reach_self pairs a)) ((reaches_is a b ha hb).1 r)) count (omega arith) ha
          where
            counted : (a b : ℕ) → a < count → stands_between a b a ≡ true → (n : ℕ) → n ≤ count → a < n → 0 < number_between a b n
            counted a b ha is zero l h = absurd (omega arith)
            counted a b ha is (suc n) l h = ⊎_elim
                (λ (lower : a < n). let so = counted a b ha is n (omega arith) lower in omega arith)
                (λ (high : n ≤ a). let same : a ≡ n = omega arith in let q : one_if (stands_between a b n) ≡ 1 = subst (λ (k : ℕ). one_if (stands_between a b k) ≡ 1) same (ap one_if is) in omega arith)
                (cases_lt a n)
    each_pair (suc n) a b c few =
        let h = pair_below count pairs below a b c in
        ⊎_elim
        (λ (f : (x : ℕ) × (x < count) × (implies a b h.0 h.1 x ≡ true)). through n (each_pair n) a b h.0 h.1 few f.0 f.1 f.2)
        (λ (none : (x : ℕ) → x < count → implies a b h.0 h.1 x ≡ false). reach_one left a b ((are a b).1 (c, not_implied a b h.0 h.1 none)))
        (find a b h.0 h.1 count (omega arith))
      where
        through : (n : ℕ) → ((a b : ℕ) → Contains pairs (a, b) → number_between a b count ≤ n → Reaches left a b) → (a b : ℕ) (ha : a < count) (hb : b < count) → number_between a b count ≤ suc n → (x : ℕ) → x < count → implies a b ha hb x ≡ true → Reaches left a b
        through n each a b ha hb few x hx is =
            let ways = and_first (reaches a x && reaches x b) (not (reaches x a) && not (reaches b x)) is in
            let nots = and_second (reaches a x && reaches x b) (not (reaches x a) && not (reaches b x)) is in
            let ax = (reaches_is a x ha hx).0 (and_first (reaches a x) (reaches x b) ways) in
            let xb = (reaches_is x b hx hb).0 (and_second (reaches a x) (reaches x b) ways) in
            let leaves = no_not a b ha hb (reaches x a) (and_first (not (reaches x a)) (not (reaches b x)) nots) in
            let enters = no_not a b ha hb (reaches b x) (and_second (not (reaches x a)) (not (reaches b x)) nots) in
            let first = fewer a x a b (λ d hd s. both_true (reaches a d) (reaches d b) (and_first (reaches a d) (reaches d x) s)
            ((reaches_is d b hd hb).1 (reach_after pairs d x b ((reaches_is d x hd hx).0 (and_second (reaches a d) (reaches d x) s)) xb)))
            b hb (is_no (stands_between a x b) (λ s. enters (and_second (reaches a b) (reaches b x) s)))
            (both_true (reaches a b) (reaches b b) ((reaches_is a b ha hb).1 (reach_after pairs a x b ax xb)) ((reaches_is b b hb hb).1 (reach_self pairs b))) count (omega arith) hb in
            let rest = fewer x b a b (λ d hd s. both_true (reaches a d) (reaches d b)
            ((reaches_is a d ha hd).1 (reach_after pairs a x d ax ((reaches_is x d hx hd).0 (and_first (reaches x d) (reaches d b) s))))
            (and_second (reaches x d) (reaches d b) s))
            a ha (is_no (stands_between x b a) (λ s. leaves (and_first (reaches x a) (reaches a b) s)))
            (both_true (reaches a a) (reaches a b) ((reaches_is a a ha ha).1 (reach_self pairs a)) ((reaches_is a b ha hb).1 (reach_after pairs a x b ax xb))) count (omega arith) ha in
            reach_after left a x b (along n each ax.0 a x ha hx ax.1 (omega arith)) (along n each xb.0 x b hx hb xb.1 (omega arith))
          where
            is_no : (x : Bool) → (x ≡ true → ⊥) → x ≡ false
            is_no true h = absurd (h refl)
            is_no false h = refl

    -- a chain of the pairs is one of what is left, and back
    over_left : (xs : List ℕ) (a b : ℕ) → IsChain pairs a xs b → Reaches left a b
    over_left [] a b h = subst (Reaches left a) h (reach_self left a)
    over_left (x ∷ xs) a b h = reach_after left a x b (each_pair (number_between a x count) a x h.0 (omega arith)) (over_left xs x b h.1)

    over_pairs : (xs : List ℕ) (a b : ℕ) → IsChain left a xs b → IsChain pairs a xs b
    over_pairs [] a b h = h
    over_pairs (x ∷ xs) a b h = (((are a x).0 h.0).0, over_pairs xs x b h.1)

pub same_reach : SameReach
same_reach count pairs left below are a b = ((λ r. over_left count pairs below left are r.0 a b r.1), (λ r. (r.0, over_pairs count pairs below left are r.0 a b r.1)))
