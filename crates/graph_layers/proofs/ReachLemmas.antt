-- Which box reaches which, step by step.
use Rattle.std.proofs.Common.{◌≡◌, ◌⊎◌, ◌↔◌, ℕ, ◌+◌, ◌*◌, ◌<◌, ◌≤◌, Bool, true, false, eqb, ◌&&◌, ◌||◌, List, [], ◌∷◌, ◌++◌, length, get_or, Contains, refl, sym, ap, ◌∙◌, subst, arith, inl, inr, ⊎_elim}
use Rattle.std.proofs.lemmas.Bool.{cases_lt, eq-eqb, eqb-true}
use Rattle.std.proofs.lemmas.List.{get_or_append_left, get_or_push, length_push}
use Rattle.std.proofs.lemmas.List.Elements.{All-contains}
use Rattle.std.proofs.lemmas.List.Folds.{Any-from_list_any, list_any-from_Any}
use Rattle.std.proofs.lemmas.Nat.{mul-add-lt}
use Rattle.evidence_rules.specs.Reaching.{IsChain, Reaches}
use Rattle.implied_pairs.specs.Pairs.{AreBelow}
use Rattle.graph_layers.specs.inner.Chains.{HasRow, IsMatrix, IsTable, at, is_pair, passes, starts}

-- ---- truth values
pub or_cases : (x y : Bool) → (x || y) ≡ true → (x ≡ true) ⊎ (y ≡ true)
or_cases true y e = inl refl
or_cases false y e = inr e

pub and_first : (x y : Bool) → (x && y) ≡ true → x ≡ true
and_first true y e = refl
and_first false y e = e

pub and_second : (x y : Bool) → (x && y) ≡ true → y ≡ true
and_second true y e = e
and_second false y e = absurd (no e)
  where
    no : false ≡ true → ⊥
    no e = cc

pub or_left : (x y : Bool) → x ≡ true → (x || y) ≡ true
or_left true y e = refl
or_left false y e = absurd (let f : false ≡ true = e in cc)

pub or_right : (x y : Bool) → y ≡ true → (x || y) ≡ true
or_right true y e = refl
or_right false y e = e

pub both_true : (x y : Bool) → x ≡ true → y ≡ true → (x && y) ≡ true
both_true true y d e = e
both_true false y d e = d

-- ---- chains
chain_after : {X : Type 0} (rows : List (X × X)) (a b c : X) (xs ys : List X) → IsChain rows a xs b → IsChain rows b ys c → IsChain rows a (xs ++ ys) c
chain_after {X} rows a b c [] ys h k = subst (λ (x : X). IsChain rows x ys c) (sym h) k
chain_after rows a b c (x ∷ xs) ys h k = (h.0, chain_after rows x b c xs ys h.1 k)

pub reach_after : {X : Type 0} (rows : List (X × X)) (a b c : X) → Reaches rows a b → Reaches rows b c → Reaches rows a c
reach_after rows a b c h k = (h.0 ++ k.0, chain_after rows a b c h.0 k.0 h.1 k.1)

pub reach_self : {X : Type 0} (rows : List (X × X)) (a : X) → Reaches rows a a
reach_self rows a = ([], refl)

pub reach_one : {X : Type 0} (rows : List (X × X)) (a b : X) → Contains rows (a, b) → Reaches rows a b
reach_one rows a b h = (b ∷ [], (h, refl))

pub chain_below : (count : ℕ) (rows : List (ℕ × ℕ)) → AreBelow count rows → (a b : ℕ) (xs : List ℕ) → a < count → IsChain rows a xs b → b < count
chain_below count rows below a b [] l h = subst (λ (n : ℕ). n < count) h l
chain_below count rows below a b (x ∷ xs) l h = chain_below count rows below x b xs (All-contains (λ (p : ℕ × ℕ). (p.0 < count) × (p.1 < count)) rows (a, x) below h.0).1 h.1

-- ---- rows
pub row_none : (entry : ℕ → Bool) (old : List Bool) → HasRow 0 entry old old
row_none entry old = record { size = omega arith; kept = λ i h. refl; each = λ b h. absurd (omega (arith, h)) }

pub row_more : (n : ℕ) (entry : ℕ → Bool) (old mid new : List Bool) (x : Bool) → HasRow n entry old mid → x ≡ entry n → new ≡ mid ++ x ∷ [] → HasRow (n + 1) entry old new
row_more n entry old mid new x so is e = subst (HasRow (n + 1) entry old) (sym e) (record {
  size = length_push mid x ∙ (let s = so.size in let r : length mid + 1 ≡ length old + (n + 1) = omega (arith, s) in r);
  kept = λ i h. get_or_append_left mid (x ∷ []) false i (omega (arith, h, so.size)) ∙ so.kept i h;
  each = λ b h. ⊎_elim
      (λ (l : b < n). get_or_append_left mid (x ∷ []) false (length old + b) (omega (arith, l, so.size)) ∙ so.each b l)
      (λ (g : n ≤ b). let same : b ≡ n = omega (arith, g, h) in
      let place : length mid ≡ length old + b = omega (arith, same, so.size) in
      get_or_push mid x false (length old + b) place ∙ is ∙ ap entry (sym same))
      (cases_lt b n);
})

pub row_done : (n count : ℕ) (entry : ℕ → Bool) (old new : List Bool) → n ≡ count → HasRow n entry old new → HasRow count entry old new
row_done n count entry old new e so = subst (λ (k : ℕ). HasRow k entry old new) e so

-- so many rows
pub record RowsSoFar (count n : ℕ) (entry : ℕ → ℕ → Bool) (matrix : List Bool) : Type 0 where
  pub size : length matrix ≡ n * count
  pub each : (a b : ℕ) → a < n → b < count → at count matrix a b ≡ entry a b

pub rows_none : (count : ℕ) (entry : ℕ → ℕ → Bool) (matrix : List Bool) → matrix ≡ [] → RowsSoFar count 0 entry matrix
rows_none count entry matrix e = record { size = ap length e ∙ (let z : 0 ≡ 0 * count = omega arith in z); each = λ a b ha hb. absurd (omega (arith, ha)) }

pub rows_more : (count n : ℕ) (entry : ℕ → ℕ → Bool) (old new : List Bool) → RowsSoFar count n entry old → HasRow count (entry n) old new → RowsSoFar count (n + 1) entry new
rows_more count n entry old new so row = record {
  size = row.size ∙ (let s = so.size in let r : length old + count ≡ (n + 1) * count = omega (arith, s) in r);
  each = λ a b ha hb. ⊎_elim
      (λ (l : a < n).
      let inside : a * count + b < count * n = mul-add-lt a count b n l hb in
      row.kept (a * count + b) (omega (arith, inside, so.size)) ∙ so.each a b l hb)
      (λ (g : n ≤ a).
      let same : a ≡ n = omega (arith, g, ha) in
      let place : n * count + b ≡ length old + b = omega (arith, so.size) in
      ap (λ (x : ℕ). at count new x b) same ∙ ap (λ (i : ℕ). get_or new i false) place ∙ row.each b hb ∙ ap (λ (x : ℕ). entry x b) (sym same))
      (cases_lt a n);
}

pub rows_done : (count n : ℕ) (entry : ℕ → ℕ → Bool) (matrix : List Bool) → n ≡ count → RowsSoFar count n entry matrix → IsTable count entry matrix
rows_done count n entry matrix e so = record {
  size = so.size ∙ ap (λ (k : ℕ). k * count) e;
  each = λ a b ha hb. so.each a b (omega (arith, e, ha)) hb;
}

-- ---- a pair in the list
pub pair_in : (pairs : List (ℕ × ℕ)) (a b : ℕ) → is_pair pairs a b ≡ true → Contains pairs (a, b)
pair_in pairs a b e =
    let m = Any-from_list_any (λ (pair : ℕ × ℕ). eqb pair.0 a && eqb pair.1 b) pairs e in
    let first = eqb-true m.1.0 a (and_first (eqb m.1.0 a) (eqb m.1.1 b) m.4) in
    let second = eqb-true m.1.1 b (and_second (eqb m.1.0 a) (eqb m.1.1 b) m.4) in
    let same : m.1 ≡ (a, b) = (λ i. (first i, second i)) in
    subst (Contains pairs) same (m.0, m.2, m.3)

pub in_pair : (pairs : List (ℕ × ℕ)) (a b : ℕ) → Contains pairs (a, b) → is_pair pairs a b ≡ true
in_pair pairs a b h =
    list_any-from_Any (λ (pair : ℕ × ℕ). eqb pair.0 a && eqb pair.1 b) pairs (h.0, (a, b), h.1, h.2, both_true (eqb a a) (eqb b b) (eq-eqb a a refl) (eq-eqb b b refl))

-- ---- closing
-- what a matrix says of each two numbers, once chains through the first so many are in it
pub record Closing (count : ℕ) (pairs : List (ℕ × ℕ)) (through : ℕ) (is : ℕ → ℕ → Bool) : Type 0 where
  pub reflexive : (a : ℕ) → a < count → is a a ≡ true
  pub has : (a b : ℕ) → Contains pairs (a, b) → is a b ≡ true
  pub sound : (a b : ℕ) → a < count → b < count → is a b ≡ true → Reaches pairs a b
  pub passes : (m a b : ℕ) → m < through → a < count → b < count → is a m ≡ true → is m b ≡ true → is a b ≡ true

pub pair_below : (count : ℕ) (pairs : List (ℕ × ℕ)) → AreBelow count pairs → (a b : ℕ) → Contains pairs (a, b) → (a < count) × (b < count)
pair_below count pairs below a b c = All-contains (λ (p : ℕ × ℕ). (p.0 < count) × (p.1 < count)) pairs (a, b) below c

module _ (count : ℕ) (pairs : List (ℕ × ℕ)) (below : AreBelow count pairs) (through : ℕ) (ht : through < count) (was is : ℕ → ℕ → Bool) (so : Closing count pairs through was)
    (passed : (a b : ℕ) → a < count → b < count → is a b ≡ (was a b || (was a through && was through b))) where
  -- a chain of old entries, in either way
  ways : (a b : ℕ) → a < count → b < count → is a b ≡ true → (was a b ≡ true) ⊎ ((was a through ≡ true) × (was through b ≡ true))
  ways a b ha hb e = ⊎_elim (λ (h : was a b ≡ true). inl h)
      (λ (h : (was a through && was through b) ≡ true). inr (and_first (was a through) (was through b) h, and_second (was a through) (was through b) h))
      (or_cases (was a b) (was a through && was through b) (sym (passed a b ha hb) ∙ e))

  kept : (a b : ℕ) → a < count → b < count → was a b ≡ true → is a b ≡ true
  kept a b ha hb e = passed a b ha hb ∙ or_left (was a b) (was a through && was through b) e

  joined : (a b : ℕ) → a < count → b < count → was a through ≡ true → was through b ≡ true → is a b ≡ true
  joined a b ha hb d e = passed a b ha hb ∙ or_right (was a b) (was a through && was through b) (both_true (was a through) (was through b) d e)

  -- to the number itself there is nothing new, and from it neither
  to_it : (a : ℕ) → a < count → is a through ≡ true → was a through ≡ true
  to_it a ha e = ⊎_elim (λ (h : was a through ≡ true). h) (λ (h : (was a through ≡ true) × (was through through ≡ true)). h.0) (ways a through ha ht e)

  from_it : (b : ℕ) → b < count → is through b ≡ true → was through b ≡ true
  from_it b hb e = ⊎_elim (λ (h : was through b ≡ true). h) (λ (h : (was through through ≡ true) × (was through b ≡ true)). h.1) (ways through b ht hb e)

  by_lower : (m a b : ℕ) → m < through → a < count → b < count → is a m ≡ true → is m b ≡ true → is a b ≡ true
  by_lower m a b l ha hb d e =
      let hm : m < count = omega arith in
      ⊎_elim
      (λ (am : was a m ≡ true). ⊎_elim
      (λ (mb : was m b ≡ true). kept a b ha hb (so.passes m a b l ha hb am mb))
      (λ (mb : (was m through ≡ true) × (was through b ≡ true)). joined a b ha hb (so.passes m a through l ha ht am mb.0) mb.1)
      (ways m b hm hb e))
      (λ (am : (was a through ≡ true) × (was through m ≡ true)). ⊎_elim
      (λ (mb : was m b ≡ true). joined a b ha hb am.0 (so.passes m through b l ht hb am.1 mb))
      (λ (mb : (was m through ≡ true) × (was through b ≡ true)). joined a b ha hb am.0 mb.1)
      (ways m b hm hb e))
      (ways a m ha hm d)

  pub closing_more : Closing count pairs (through + 1) is
  closing_more = record {
    reflexive = λ a ha. kept a a ha ha (so.reflexive a ha);
    has = λ a b c. let h = pair_below count pairs below a b c in kept a b h.0 h.1 (so.has a b c);
    sound = λ a b ha hb e. ⊎_elim
        (λ (h : was a b ≡ true). so.sound a b ha hb h)
        (λ (h : (was a through ≡ true) × (was through b ≡ true)). reach_after pairs a through b (so.sound a through ha ht h.0) (so.sound through b ht hb h.1))
        (ways a b ha hb e);
    passes = λ m a b l ha hb d e. ⊎_elim
        (λ (lower : m < through). by_lower m a b lower ha hb d e)
        (λ (high : through ≤ m).
        let same : m ≡ through = omega arith in
        joined a b ha hb (to_it a ha (subst (λ (n : ℕ). is a n ≡ true) same d)) (from_it b hb (subst (λ (n : ℕ). is n b ≡ true) same e)))
        (cases_lt m through);
  }

pub closed : (count : ℕ) (pairs : List (ℕ × ℕ)) → AreBelow count pairs → (through : ℕ) (is : ℕ → ℕ → Bool) → count ≤ through → Closing count pairs through is → (a b : ℕ) → a < count → b < count → (is a b ≡ true) ↔ Reaches pairs a b
closed count pairs below through is all so a b ha hb = ((λ e. so.sound a b ha hb e), (λ r. along r.0 a b ha hb r.1))
  where
    along : (xs : List ℕ) (a b : ℕ) → a < count → b < count → IsChain pairs a xs b → is a b ≡ true
    along [] a b ha hb h = subst (λ (x : ℕ). is a x ≡ true) h (so.reflexive a ha)
    along (x ∷ xs) a b ha hb h =
        let hx = (pair_below count pairs below a x h.0).1 in
        so.passes x a b (omega arith) ha hb (so.has a x h.0) (along xs x b hx hb h.1)

-- ---- the matrix
pub record MatrixSoFar (count : ℕ) (pairs : List (ℕ × ℕ)) (through : ℕ) (matrix : List Bool) : Type 0 where
  pub size : length matrix ≡ count * count
  pub closing : Closing count pairs through (at count matrix)

pub matrix_start : (count : ℕ) (pairs : List (ℕ × ℕ)) (below : AreBelow count pairs) (matrix : List Bool) → IsTable count (starts pairs) matrix → MatrixSoFar count pairs 0 matrix
matrix_start count pairs below matrix table = record {
  size = table.size;
  closing = record {
    reflexive = λ a ha. table.each a a ha ha ∙ or_left (eqb a a) (is_pair pairs a a) (eq-eqb a a refl);
    has = λ a b c. let h = pair_below count pairs below a b c in table.each a b h.0 h.1 ∙ or_right (eqb a b) (is_pair pairs a b) (in_pair pairs a b c);
    sound = λ a b ha hb e. ⊎_elim
        (λ (s : eqb a b ≡ true). subst (Reaches pairs a) (eqb-true a b s) (reach_self pairs a))
        (λ (p : is_pair pairs a b ≡ true). reach_one pairs a b (pair_in pairs a b p))
        (or_cases (eqb a b) (is_pair pairs a b) (sym (table.each a b ha hb) ∙ e));
    passes = λ m a b l ha hb d e. absurd (omega (arith, l));
  };
}

pub matrix_more : (count : ℕ) (pairs : List (ℕ × ℕ)) (below : AreBelow count pairs) (through : ℕ) (old lent new : List Bool) → through < count → MatrixSoFar count pairs through old → lent ≡ old → IsTable count (passes count lent through) new → MatrixSoFar count pairs (through + 1) new
matrix_more count pairs below through old lent new l so e given =
    let table : IsTable count (passes count old through) new = subst (λ (m : List Bool). IsTable count (passes count m through) new) e given in
    record { size = table.size; closing = closing_more count pairs below through l (at count old) (at count new) so.closing table.each }

pub matrix_done : (count : ℕ) (pairs : List (ℕ × ℕ)) (below : AreBelow count pairs) (through : ℕ) (matrix : List Bool) → count ≤ through → MatrixSoFar count pairs through matrix → IsMatrix count pairs matrix
matrix_done count pairs below through matrix all so = record { size = so.size; each = closed count pairs below through (at count matrix) all so.closing }
