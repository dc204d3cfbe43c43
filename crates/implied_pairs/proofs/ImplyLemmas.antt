-- The matrix at the start, and what it tells of each pair.
use Rattle.std.proofs.Common.{◌≡◌, ◌≢◌, ◌⊎◌, ◌↔◌, ℕ, zero, suc, ◌+◌, ◌*◌, ◌<◌, ◌≤◌, Bool, true, false, not, ◌&&◌, ◌||◌, List, [], ◌∷◌, ◌++◌, length, take, drop, get_or, set, replicate, Contains, All, refl, sym, ap, ap₂, ◌∙◌, subst, arith, inl, inr, ⊎_elim, length-set}
use Rattle.std.specs.List.{AllZip}
use Rattle.std.proofs.lemmas.Bool.{cases_eq, cases_lt}
use Rattle.std.proofs.lemmas.List.{take_all, take_at, take_more}
use Rattle.std.proofs.lemmas.List.Elements.{All-contains, All-get_or, All-take, Contains-get_or, Contains-push_cases}
use Rattle.evidence_rules.specs.Reaching.{IsImplied, Reaches}
use Rattle.implied_pairs.specs.Pairs.{AreBelow}
use Rattle.implied_pairs.specs.inner.Matrices.{HasBetween, IsMatrix, IsReflexive, IsSound, HasPairs, at, is_between}
use Rattle.implied_pairs.proofs.MatrixLemmas.{Closing, MatrixSoFar, and_first, and_second, both_true, chain_below, closed, closing_more, entry_other, entry_set, reach_one, reach_self}

-- ---- the pairs so far
pub record PairsSoFar (count : ℕ) (pairs : List (ℕ × ℕ)) (n : ℕ) (matrix : List Bool) : Type 0 where
  pub size : length matrix ≡ count * count
  pub has : (a b : ℕ) → Contains (take n pairs) (a, b) → at count matrix a b ≡ true
  pub sound : IsSound count pairs matrix

none_at : (n i : ℕ) → get_or (replicate n false) i false ≡ false
none_at zero i = refl
none_at (suc n) zero = refl
none_at (suc n) (suc i) = none_at n i

length_none : (n : ℕ) → length (replicate n false) ≡ n
length_none zero = refl
length_none (suc n) = ap (λ (m : ℕ). suc m) (length_none n)

pub pairs_none : (count n : ℕ) (pairs : List (ℕ × ℕ)) → n ≡ count * count → PairsSoFar count pairs 0 (replicate n false)
pairs_none count n pairs e = record {
  size = length_none n ∙ e;
  has = λ a b c. absurd (omega (arith, c.1));
  sound = λ a b ha hb h. absurd (let f : false ≡ true = sym (none_at n (a * count + b)) ∙ h in cc);
}

-- an entry more, where a chain leads
set_sound : (count : ℕ) (pairs : List (ℕ × ℕ)) (matrix : List Bool) (c d : ℕ) → c < count → d < count → Reaches pairs c d → IsSound count pairs matrix → IsSound count pairs (set matrix (c * count + d) true)
set_sound count pairs matrix c d hc hd r is a b ha hb h = ⊎_elim
    (λ (ea : a ≡ c). ⊎_elim
    (λ (eb : b ≡ d). subst (λ (x : ℕ). Reaches pairs x b) (sym ea) (subst (λ (y : ℕ). Reaches pairs c y) (sym eb) r))
    (λ (nb : b ≡ d → ⊥). is a b ha hb (sym (entry_other count a b c d matrix hb hd (λ e. nb e.1)) ∙ h))
    (cases_eq b d))
    (λ (na : a ≡ c → ⊥). is a b ha hb (sym (entry_other count a b c d matrix hb hd (λ e. na e.0)) ∙ h))
    (cases_eq a c)

-- it keeps all others
set_keeps : (count : ℕ) (matrix : List Bool) (c d a b : ℕ) → length matrix ≡ count * count → c < count → d < count → b < count → at count matrix a b ≡ true → at count (set matrix (c * count + d) true) a b ≡ true
set_keeps count matrix c d a b size hc hd hb h = ⊎_elim
    (λ (ea : a ≡ c). ⊎_elim
    (λ (eb : b ≡ d). subst (λ (x : ℕ). at count (set matrix (c * count + d) true) x b ≡ true) (sym ea) (subst (λ (y : ℕ). at count (set matrix (c * count + d) true) c y ≡ true) (sym eb) (entry_set count c d matrix size hc hd)))
    (λ (nb : b ≡ d → ⊥). entry_other count a b c d matrix hb hd (λ e. nb e.1) ∙ h)
    (cases_eq b d))
    (λ (na : a ≡ c → ⊥). entry_other count a b c d matrix hb hd (λ e. na e.0) ∙ h)
    (cases_eq a c)

-- ---- the numbers so far, each with itself
pub record NumbersSoFar (count : ℕ) (pairs : List (ℕ × ℕ)) (n : ℕ) (matrix : List Bool) : Type 0 where
  pub size : length matrix ≡ count * count
  pub reflexive : (a : ℕ) → a < n → at count matrix a a ≡ true
  pub has : HasPairs count pairs matrix
  pub sound : IsSound count pairs matrix

pub numbers_none : (count : ℕ) (pairs : List (ℕ × ℕ)) (n : ℕ) (matrix : List Bool) → length pairs ≤ n → PairsSoFar count pairs n matrix → NumbersSoFar count pairs 0 matrix
numbers_none count pairs n matrix all so = record {
  size = so.size;
  reflexive = λ a h. absurd (omega arith);
  has = λ a b c. so.has a b (subst (λ (xs : List (ℕ × ℕ)). Contains xs (a, b)) (sym (take_all n pairs all)) c);
  sound = so.sound;
}

module _ (count : ℕ) (pairs : List (ℕ × ℕ)) (below : AreBelow count pairs) where
  in_below : (n : ℕ) (a b : ℕ) → n < length pairs → get_or pairs n (0, 0) ≡ (a, b) → (a < count) × (b < count)
  in_below n a b l e = subst (λ (p : ℕ × ℕ). (p.0 < count) × (p.1 < count)) e (All-get_or (λ (p : ℕ × ℕ). (p.0 < count) × (p.1 < count)) pairs n (0, 0) l below)

  taken_below : (n a b : ℕ) → Contains (take n pairs) (a, b) → (b < count)
  taken_below n a b c = (All-contains (λ (p : ℕ × ℕ). (p.0 < count) × (p.1 < count)) (take n pairs) (a, b) (All-take (λ (p : ℕ × ℕ). (p.0 < count) × (p.1 < count)) n pairs below) c).1

  pub pairs_more : (n : ℕ) (matrix : List Bool) (p : ℕ × ℕ) → n < length pairs → get_or pairs n (0, 0) ≡ p → PairsSoFar count pairs n matrix → PairsSoFar count pairs (n + 1) (set matrix (p.0 * count + p.1) true)
  pairs_more n matrix p l e so =
      let h = in_below n p.0 p.1 l e in
      record {
        size = length-set matrix (p.0 * count + p.1) true ∙ so.size;
        has = λ a b c. ⊎_elim
            (λ (old : Contains (take n pairs) (a, b)). set_keeps count matrix p.0 p.1 a b so.size h.0 h.1 (taken_below n a b old) (so.has a b old))
            (λ (new : p ≡ (a, b)). subst (λ (q : ℕ × ℕ). at count (set matrix (p.0 * count + p.1) true) q.0 q.1 ≡ true) new (entry_set count p.0 p.1 matrix so.size h.0 h.1))
            (Contains-push_cases (take n pairs) p (a, b) (subst (λ (xs : List (ℕ × ℕ)). Contains xs (a, b)) (take_more pairs n (0, 0) l ∙ ap (λ (q : ℕ × ℕ). take n pairs ++ q ∷ []) e) c));
        sound = set_sound count pairs matrix p.0 p.1 h.0 h.1 (reach_one pairs p.0 p.1 (subst (Contains pairs) e (Contains-get_or pairs n (0, 0) l))) so.sound;
      }

  pub numbers_more : (n : ℕ) (matrix : List Bool) → n < count → NumbersSoFar count pairs n matrix → NumbersSoFar count pairs (n + 1) (set matrix (n * count + n) true)
  numbers_more n matrix l so = record {
    size = length-set matrix (n * count + n) true ∙ so.size;
    reflexive = λ a ha. ⊎_elim
        (λ (lower : a < n). set_keeps count matrix n n a a so.size l l (omega arith) (so.reflexive a lower))
        (λ (is : n ≤ a). let same : a ≡ n = omega arith in subst (λ (x : ℕ). at count (set matrix (n * count + n) true) x x ≡ true) (sym same) (entry_set count n n matrix so.size l l))
        (cases_lt a n);
    has = λ a b c. set_keeps count matrix n n a b so.size l l (contained_below a b c) (so.has a b c);
    sound = set_sound count pairs matrix n n l l (reach_self pairs n) so.sound;
  }
    where
      contained_below : (a b : ℕ) → Contains pairs (a, b) → b < count
      contained_below a b c = (All-contains (λ (p : ℕ × ℕ). (p.0 < count) × (p.1 < count)) pairs (a, b) below c).1

  -- ---- what the matrix tells
  module _ (matrix : List Bool) (is : IsMatrix count pairs matrix) (a b : ℕ) (ha : a < count) (hb : b < count) where
    not_true : (x : Bool) → not x ≡ true → x ≡ true → ⊥
    not_true true e f = let g : false ≡ true = e in cc
    not_true false e f = let g : false ≡ true = f in cc

    true_not : (x : Bool) → (x ≡ true → ⊥) → not x ≡ true
    true_not true h = absurd (h refl)
    true_not false h = refl

    pub implied_from : HasBetween count matrix a b → IsImplied pairs a b
    implied_from (c, hc, e) =
        let tail = and_second (at count matrix a c) (at count matrix c b && (not (at count matrix c a) && not (at count matrix b c))) e in
        let nots = and_second (at count matrix c b) (not (at count matrix c a) && not (at count matrix b c)) tail in
        record {
          through = c;
          to = (is.each a c ha hc).0 (and_first (at count matrix a c) (at count matrix c b && (not (at count matrix c a) && not (at count matrix b c))) e);
          from = (is.each c b hc hb).0 (and_first (at count matrix c b) (not (at count matrix c a) && not (at count matrix b c)) tail);
          leaves = λ r. not_true (at count matrix c a) (and_first (not (at count matrix c a)) (not (at count matrix b c)) nots) ((is.each c a hc ha).1 r);
          enters = λ r. not_true (at count matrix b c) (and_second (not (at count matrix c a)) (not (at count matrix b c)) nots) ((is.each b c hb hc).1 r);
        }

    pub implied_to : IsImplied pairs a b → HasBetween count matrix a b
    implied_to i =
        let c = i.through in
        let hc : c < count = chain_below count pairs below a c i.to.0 ha i.to.1 in (
          c,
          hc,
          both_true (at count matrix a c) (at count matrix c b && (not (at count matrix c a) && not (at count matrix b c))) ((is.each a c ha hc).1 i.to)
              (both_true (at count matrix c b) (not (at count matrix c a) && not (at count matrix b c)) ((is.each c b hc hb).1 i.from)
              (both_true (not (at count matrix c a)) (not (at count matrix b c)) (true_not (at count matrix c a) (λ e. i.leaves ((is.each c a hc ha).0 e))) (true_not (at count matrix b c) (λ e. i.enters ((is.each b c hb hc).0 e))))),
        )

-- a verdict more
pub zip_push : {X Y : Type 0} (R : X → Y → Type 0) (xs : List X) (ys : List Y) (x : X) (y : Y) → AllZip R xs ys → R x y → AllZip R (xs ++ x ∷ []) (ys ++ y ∷ [])
zip_push R [] [] x y z r = (r, tt)
zip_push R [] (v ∷ ys) x y z r = absurd z
zip_push R (u ∷ xs) [] x y z r = absurd z
zip_push R (u ∷ xs) (v ∷ ys) x y z r = (z.0, zip_push R xs ys x y z.1 r)

-- ---- the matrix
pub matrix_start : (count : ℕ) (pairs : List (ℕ × ℕ)) (matrix : List Bool) → length matrix ≡ count * count → IsReflexive count matrix → HasPairs count pairs matrix → IsSound count pairs matrix → MatrixSoFar count pairs 0 matrix
matrix_start count pairs matrix size reflexive has sound = record {
  size = size;
  closing = record { reflexive = reflexive; has = has; sound = sound; passes = λ m a b l ha hb d e. absurd (omega arith) };
}

pub matrix_more : (count : ℕ) (pairs : List (ℕ × ℕ)) (below : AreBelow count pairs) (through : ℕ) (old new : List Bool) → through < count → MatrixSoFar count pairs through old → length new ≡ count * count
    → ((a b : ℕ) → a < count → b < count → at count new a b ≡ (at count old a b || (at count old a through && at count old through b))) → MatrixSoFar count pairs (through + 1) new
matrix_more count pairs below through old new l so size passed = record { size = size; closing = closing_more count pairs below through l (at count old) (at count new) so.closing passed }

pub matrix_done : (count : ℕ) (pairs : List (ℕ × ℕ)) (below : AreBelow count pairs) (through : ℕ) (matrix : List Bool) → count ≤ through → MatrixSoFar count pairs through matrix → IsMatrix count pairs matrix
matrix_done count pairs below through matrix all so = record { size = so.size; each = closed count pairs below through (at count matrix) all so.closing }

-- none found so far, and one more
pub none_more : (P : ℕ → Bool) (n : ℕ) → ((c : ℕ) → c < n → P c ≡ false) → P n ≡ false → (c : ℕ) → c < n + 1 → P c ≡ false
none_more P n so is c h = ⊎_elim (λ (l : c < n). so c l) (λ (g : n ≤ c). let same : n ≡ c = omega arith in subst (λ (k : ℕ). P k ≡ false) same is) (cases_lt c n)

-- a list that was lent is written back
pub written_back : {X : Type 0} (n : ℕ) (old new : List X) → n ≡ length old → length new ≡ length old → take n (new ++ drop (length new) old) ≡ new
written_back n old new size same = take_at new (drop (length new) old) n (omega arith)
