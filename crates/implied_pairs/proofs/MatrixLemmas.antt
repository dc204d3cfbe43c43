-- Which number reaches which, step by step.
use Rattle.std.proofs.Common.{◌≡◌, ◌⊎◌, ◌↔◌, ℕ, ◌+◌, ◌*◌, ◌<◌, ◌≤◌, Bool, true, false, not, cond, eqb, ltb, ◌&&◌, ◌||◌, List, [], ◌∷◌, ◌++◌, length, take, get_or, set, Contains, All, refl, sym, ap, ap₂, ◌∙◌, subst, arith, inl, inr, ⊎_elim, length-set, get_or-set_same, get_or-set_other}
use Rattle.std.proofs.lemmas.Bool.{cases_eq, cases_lt, eq-eqb, ne_eqb, lt-ltb, le-ltb}
use Rattle.std.proofs.lemmas.List.Elements.{All-contains}
use Rattle.std.proofs.lemmas.Nat.{mul-add-lt, same_from_place}
use Rattle.evidence_rules.specs.Reaching.{IsChain, Reaches}
use Rattle.implied_pairs.specs.Pairs.{AreBelow}
use Rattle.implied_pairs.specs.inner.Matrices.{at}

-- ---- truth values
pub or_cases : (x y : Bool) → (x || y) ≡ true → (x ≡ true) ⊎ (y ≡ true)
or_cases true y e = inl refl
or_cases false y e = inr e

pub and_first : (x y : Bool) → (x && y) ≡ true → x ≡ true
and_first true y e = refl
and_first false y e = e

pub and_second : (x y : Bool) → (x && y) ≡ true → y ≡ true
and_second true y e = e
and_second false y e = absurd (no e)
  where
    no : false ≡ true → ⊥
    no e = cc

pub or_left : (x y : Bool) → x ≡ true → (x || y) ≡ true
or_left true y e = refl
or_left false y e = absurd (let f : false ≡ true = e in cc)

pub or_right : (x y : Bool) → y ≡ true → (x || y) ≡ true
or_right true y e = refl
or_right false y e = e

pub both_true : (x y : Bool) → x ≡ true → y ≡ true → (x && y) ≡ true
both_true true y d e = e
both_true false y d e = d

-- ---- chains
chain_after : {X : Type 0} (rows : List (X × X)) (a b c : X) (xs ys : List X) → IsChain rows a xs b → IsChain rows b ys c → IsChain rows a (xs ++ ys) c
chain_after {X} rows a b c [] ys h k = subst (λ (x : X). IsChain rows x ys c) (sym h) k
chain_after rows a b c (x ∷ xs) ys h k = (h.0, chain_after rows x b c xs ys h.1 k)

pub reach_after : {X : Type 0} (rows : List (X × X)) (a b c : X) → Reaches rows a b → Reaches rows b c → Reaches rows a c
reach_after rows a b c h k = (h.0 ++ k.0, chain_after rows a b c h.0 k.0 h.1 k.1)

pub reach_self : {X : Type 0} (rows : List (X × X)) (a : X) → Reaches rows a a
reach_self rows a = ([], refl)

pub reach_one : {X : Type 0} (rows : List (X × X)) (a b : X) → Contains rows (a, b) → Reaches rows a b
reach_one rows a b h = (b ∷ [], (h, refl))

pub chain_below : (count : ℕ) (rows : List (ℕ × ℕ)) → AreBelow count rows → (a b : ℕ) (xs : List ℕ) → a < count → IsChain rows a xs b → b < count
chain_below count rows below a b [] l h = subst (λ (n : ℕ). n < count) h l
chain_below count rows below a b (x ∷ xs) l h = chain_below count rows below x b xs (All-contains (λ (p : ℕ × ℕ). (p.0 < count) × (p.1 < count)) rows (a, x) below h.0).1 h.1

-- ---- entries
pub entry_within : (count a b : ℕ) (matrix : List Bool) → length matrix ≡ count * count → a < count → b < count → a * count + b < length matrix
entry_within count a b matrix size ha hb = let l = mul-add-lt a count b count ha hb in subst (λ (n : ℕ). a * count + b < n) (sym size) l

pub entry_set : (count a b : ℕ) (matrix : List Bool) → length matrix ≡ count * count → a < count → b < count → at count (set matrix (a * count + b) true) a b ≡ true
entry_set count a b matrix size ha hb = get_or-set_same matrix (a * count + b) true false (entry_within count a b matrix size ha hb)

pub entry_other : (count a b c d : ℕ) (matrix : List Bool) → b < count → d < count → ((a ≡ c) × (b ≡ d) → ⊥) → at count (set matrix (c * count + d) true) a b ≡ at count matrix a b
entry_other count a b c d matrix hb hd ne = get_or-set_other matrix (c * count + d) (a * count + b) true false (λ e. ne (same_from_place a b c d count hb hd e))

-- ---- one row
pub record RowSoFar (count : ℕ) (old : List Bool) (to from column : ℕ) (matrix : List Bool) : Type 0 where
  pub size : length matrix ≡ count * count
  pub each : (a b : ℕ) → a < count → b < count → at count matrix a b ≡ (at count old a b || ((eqb a to && ltb b column) && at count old from b))

or_no : (x y : Bool) → x ≡ (x || ((y && false) && false))
or_no true y = refl
or_no false true = refl
or_no false false = refl

past : (x y z : Bool) → x ≡ (x || ((y && false) && z))
past true y z = refl
past false true z = refl
past false false z = refl

pub row_none : (count : ℕ) (old : List Bool) (to from : ℕ) → length old ≡ count * count → RowSoFar count old to from 0 old
row_none count old to from size = record {
  size = size;
  each = λ a b ha hb. past (at count old a b) (eqb a to) (at count old from b)
      ∙ ap (λ (t : Bool). at count old a b || ((eqb a to && t) && at count old from b)) (sym (le-ltb b 0 (omega arith)));
}

module _ (count : ℕ) (old : List Bool) (to from column : ℕ) (matrix : List Bool) (ht : to < count) (hf : from < count) (hc : column < count) (so : RowSoFar count old to from column matrix) where
  pub row_read : at count matrix from column ≡ at count old from column
  row_read = so.each from column hf hc
      ∙ ap (λ (t : Bool). at count old from column || ((eqb from to && t) && at count old from column)) (le-ltb column column (omega arith))
      ∙ sym (past (at count old from column) (eqb from to) (at count old from column))

  -- at all other places the next column changes nothing
  same_else : (a b : ℕ) → ((a ≡ to) × (b ≡ column) → ⊥) → ((eqb a to && ltb b column) && at count old from b) ≡ ((eqb a to && ltb b (column + 1)) && at count old from b)
  same_else a b ne = ⊎_elim
      (λ (e : a ≡ to). ap (λ (t : Bool). (eqb a to && t) && at count old from b) (⊎_elim
      (λ (l : b < column). lt-ltb b column l ∙ sym (lt-ltb b (column + 1) (omega arith)))
      (λ (g : column ≤ b). le-ltb b column g ∙ sym (le-ltb b (column + 1) (by b g (λ s. ne (e, s)))))
      (cases_lt b column)))
      (λ (n : a ≡ to → ⊥). ap (λ (t : Bool). (t && ltb b column) && at count old from b) (ne_eqb a to n) ∙ sym (ap (λ (t : Bool). (t && ltb b (column + 1)) && at count old from b) (ne_eqb a to n)))
      (cases_eq a to)
    where
      by : (b : ℕ) → column ≤ b → (b ≡ column → ⊥) → column + 1 ≤ b
      by b g ne = ⊎_elim (λ (l : column < b). omega arith) (λ (h : b ≤ column). absurd (ne (omega arith))) (cases_lt column b)

  now_here : (x z : Bool) → z ≡ true → true ≡ (x || ((eqb to to && ltb column (column + 1)) && z))
  now_here x z e = sym (or_right x ((eqb to to && ltb column (column + 1)) && z) (both_true (eqb to to && ltb column (column + 1)) z (both_true (eqb to to) (ltb column (column + 1)) (eq-eqb to to refl) (lt-ltb column (column + 1) (omega arith))) e))

  pub row_set : at count matrix from column ≡ true → RowSoFar count old to from (column + 1) (set matrix (to * count + column) true)
  row_set is = record {
    size = length-set matrix (to * count + column) true ∙ so.size;
    each = λ a b ha hb. ⊎_elim
        (λ (ea : a ≡ to). ⊎_elim
        (λ (eb : b ≡ column).
        subst (λ (x : ℕ). at count (set matrix (to * count + column) true) x b ≡ (at count old x b || ((eqb x to && ltb b (column + 1)) && at count old from b))) (sym ea)
        (subst (λ (y : ℕ). at count (set matrix (to * count + column) true) to y ≡ (at count old to y || ((eqb to to && ltb y (column + 1)) && at count old from y))) (sym eb)
        (entry_set count to column matrix so.size ht hc ∙ now_here (at count old to column) (at count old from column) (sym row_read ∙ is))))
        (λ (nb : b ≡ column → ⊥). other a b ha hb (λ e. nb e.1))
        (cases_eq b column))
        (λ (na : a ≡ to → ⊥). other a b ha hb (λ e. na e.0))
        (cases_eq a to);
  }
    where
      other : (a b : ℕ) → a < count → b < count → ((a ≡ to) × (b ≡ column) → ⊥) → at count (set matrix (to * count + column) true) a b ≡ (at count old a b || ((eqb a to && ltb b (column + 1)) && at count old from b))
      other a b ha hb ne = entry_other count a b to column matrix hb hc ne ∙ so.each a b ha hb ∙ ap (λ (t : Bool). at count old a b || t) (same_else a b ne)

  pub row_skip : at count matrix from column ≡ false → RowSoFar count old to from (column + 1) matrix
  row_skip is = record {
    size = so.size;
    each = λ a b ha hb. ⊎_elim
        (λ (eb : b ≡ column).
        let none : at count old from b ≡ false = ap (at count old from) eb ∙ (sym row_read ∙ is) in
        so.each a b ha hb ∙ ap (λ (t : Bool). at count old a b || ((eqb a to && ltb b column) && t)) none
        ∙ (drop_false (at count old a b) (eqb a to && ltb b column) (eqb a to && ltb b (column + 1))
        ∙ sym (ap (λ (t : Bool). at count old a b || ((eqb a to && ltb b (column + 1)) && t)) none)))
        (λ (nb : b ≡ column → ⊥). so.each a b ha hb ∙ ap (λ (t : Bool). at count old a b || t) (same_else a b (λ e. nb e.1)))
        (cases_eq b column);
  }
    where
      drop_false : (x y z : Bool) → (x || (y && false)) ≡ (x || (z && false))
      drop_false true y z = refl
      drop_false false true true = refl
      drop_false false true false = refl
      drop_false false false true = refl
      drop_false false false false = refl

pub row_done : (count : ℕ) (old : List Bool) (to from column : ℕ) (matrix : List Bool) → count ≤ column → RowSoFar count old to from column matrix → (a b : ℕ) → a < count → b < count → at count matrix a b ≡ (at count old a b || (eqb a to && at count old from b))
row_done count old to from column matrix all so a b ha hb = so.each a b ha hb
    ∙ ap (λ (t : Bool). at count old a b || ((eqb a to && t) && at count old from b)) (lt-ltb b column (omega arith))
    ∙ ap (λ (t : Bool). at count old a b || (t && at count old from b)) (with_true (eqb a to))
  where
    with_true : (x : Bool) → (x && true) ≡ x
    with_true true = refl
    with_true false = refl

-- ---- all rows through one number
pub record PassedSoFar (count : ℕ) (old : List Bool) (through row : ℕ) (matrix : List Bool) : Type 0 where
  pub size : length matrix ≡ count * count
  pub each : (a b : ℕ) → a < count → b < count → at count matrix a b ≡ (at count old a b || (ltb a row && (at count old a through && at count old through b)))

with_none : (x z : Bool) → x ≡ (x || (false && z))
with_none true z = refl
with_none false z = refl

pub passed_none : (count : ℕ) (old : List Bool) (through : ℕ) → length old ≡ count * count → PassedSoFar count old through 0 old
passed_none count old through size = record {
  size = size;
  each = λ a b ha hb. with_none (at count old a b) (at count old a through && at count old through b)
      ∙ ap (λ (t : Bool). at count old a b || (t && (at count old a through && at count old through b))) (sym (le-ltb a 0 (omega arith)));
}

module _ (count : ℕ) (old : List Bool) (through row : ℕ) (matrix : List Bool) (ht : through < count) (hr : row < count) (so : PassedSoFar count old through row matrix) where
  pub passed_read : at count matrix row through ≡ at count old row through
  passed_read = so.each row through hr ht ∙ ap (λ (t : Bool). at count old row through || (t && (at count old row through && at count old through through))) (le-ltb row row (omega arith)) ∙ sym (with_none (at count old row through) (at count old row through && at count old through through))

  -- the row of the number itself is what it was
  own_row : (b : ℕ) → b < count → at count matrix through b ≡ at count old through b
  own_row b hb = so.each through b ht hb ∙ absorb (at count old through b) (ltb through row) (at count old through through)
    where
      absorb : (x y z : Bool) → (x || (y && (z && x))) ≡ x
      absorb true y z = refl
      absorb false true true = refl
      absorb false true false = refl
      absorb false false z = refl

  other_row : (a b : ℕ) → (a ≡ row → ⊥) → (x : Bool) → (at count old a b || (ltb a row && x)) ≡ (at count old a b || (ltb a (row + 1) && x))
  other_row a b ne x = ap (λ (t : Bool). at count old a b || (t && x)) (⊎_elim
      (λ (l : a < row). lt-ltb a row l ∙ sym (lt-ltb a (row + 1) (omega arith)))
      (λ (g : row ≤ a). le-ltb a row g ∙ sym (le-ltb a (row + 1) (⊎_elim (λ (l : row < a). omega arith) (λ (h : a ≤ row). absurd (ne (omega arith))) (cases_lt row a))))
      (cases_lt a row))

  pub passed_add : (after : List Bool) → at count matrix row through ≡ true → length after ≡ count * count
      → ((a b : ℕ) → a < count → b < count → at count after a b ≡ (at count matrix a b || (eqb a row && at count matrix through b))) → PassedSoFar count old through (row + 1) after
  passed_add after is size added = record {
    size = size;
    each = λ a b ha hb.
        let start : at count after a b ≡ ((at count old a b || (ltb a row && (at count old a through && at count old through b))) || (eqb a row && at count old through b)) =
        added a b ha hb ∙ ap₂ (λ (x y : Bool). x || (eqb a row && y)) (so.each a b ha hb) (own_row b hb) in
        ⊎_elim
        (λ (e : a ≡ row).
        let through_yes : at count old a through ≡ true = ap (λ (x : ℕ). at count old x through) e ∙ (sym passed_read ∙ is) in
        start ∙ ap₂ (λ (s t : Bool). (at count old a b || (s && (at count old a through && at count old through b))) || (t && at count old through b)) (le-ltb a row (omega arith)) (eq-eqb a row e)
        ∙ (join (at count old a b) (at count old a through) (at count old through b) through_yes
        ∙ sym (ap (λ (t : Bool). at count old a b || (t && (at count old a through && at count old through b))) (lt-ltb a (row + 1) (omega arith)))))
        (λ (ne : a ≡ row → ⊥).
        start ∙ ap (λ (t : Bool). (at count old a b || (ltb a row && (at count old a through && at count old through b))) || (t && at count old through b)) (ne_eqb a row ne)
        ∙ (none_more (at count old a b || (ltb a row && (at count old a through && at count old through b))) (at count old through b)
        ∙ other_row a b ne (at count old a through && at count old through b)))
        (cases_eq a row);
  }
    where
      join : (x y z : Bool) → y ≡ true → ((x || (false && (y && z))) || (true && z)) ≡ (x || (true && (y && z)))
      join true y z e = refl
      join false true z e = refl
      join false false z e = absurd (let f : false ≡ true = e in cc)

      none_more : (x z : Bool) → (x || (false && z)) ≡ x
      none_more true z = refl
      none_more false z = refl

  pub passed_skip : at count matrix row through ≡ false → PassedSoFar count old through (row + 1) matrix
  passed_skip is = record {
    size = so.size;
    each = λ a b ha hb. so.each a b ha hb ∙ ⊎_elim
        (λ (e : a ≡ row).
        let none : at count old a through ≡ false = ap (λ (x : ℕ). at count old x through) e ∙ (sym passed_read ∙ is) in
        ap (λ (t : Bool). at count old a b || (ltb a row && (t && at count old through b))) none
        ∙ (same (at count old a b) (ltb a row) (ltb a (row + 1)) (at count old through b)
        ∙ sym (ap (λ (t : Bool). at count old a b || (ltb a (row + 1) && (t && at count old through b))) none)))
        (λ (ne : a ≡ row → ⊥). other_row a b ne (at count old a through && at count old through b))
        (cases_eq a row);
  }
    where
      same : (x y z w : Bool) → (x || (y && (false && w))) ≡ (x || (z && (false && w)))
      same true y z w = refl
      same false true true w = refl
      same false true false w = refl
      same false false true w = refl
      same false false false w = refl

pub passed_done : (count : ℕ) (old : List Bool) (through row : ℕ) (matrix : List Bool) → count ≤ row → PassedSoFar count old through row matrix → (a b : ℕ) → a < count → b < count
    → at count matrix a b ≡ (at count old a b || (at count old a through && at count old through b))
passed_done count old through row matrix all so a b ha hb = so.each a b ha hb ∙ ap (λ (t : Bool). at count old a b || (t && (at count old a through && at count old through b))) (lt-ltb a row (omega arith))

-- ---- all numbers

-- what a matrix says of each two numbers, once chains through the first so many are in it
pub record Closing (count : ℕ) (pairs : List (ℕ × ℕ)) (through : ℕ) (is : ℕ → ℕ → Bool) : Type 0 where
  pub reflexive : (a : ℕ) → a < count → is a a ≡ true
  pub has : (a b : ℕ) → Contains pairs (a, b) → is a b ≡ true
  pub sound : (a b : ℕ) → a < count → b < count → is a b ≡ true → Reaches pairs a b
  pub passes : (m a b : ℕ) → m < through → a < count → b < count → is a m ≡ true → is m b ≡ true → is a b ≡ true

pub pair_below : (count : ℕ) (pairs : List (ℕ × ℕ)) → AreBelow count pairs → (a b : ℕ) → Contains pairs (a, b) → (a < count) × (b < count)
pair_below count pairs below a b c = All-contains (λ (p : ℕ × ℕ). (p.0 < count) × (p.1 < count)) pairs (a, b) below c

module _ (count : ℕ) (pairs : List (ℕ × ℕ)) (below : AreBelow count pairs) (through : ℕ) (ht : through < count) (was is : ℕ → ℕ → Bool) (so : Closing count pairs through was)
    (passed : (a b : ℕ) → a < count → b < count → is a b ≡ (was a b || (was a through && was through b))) where
  -- a chain of old entries, in either way
  ways : (a b : ℕ) → a < count → b < count → is a b ≡ true → (was a b ≡ true) ⊎ ((was a through ≡ true) × (was through b ≡ true))
  ways a b ha hb e = ⊎_elim (λ (h : was a b ≡ true). inl h)
      (λ (h : (was a through && was through b) ≡ true). inr (and_first (was a through) (was through b) h, and_second (was a through) (was through b) h))
      (or_cases (was a b) (was a through && was through b) (sym (passed a b ha hb) ∙ e))

  kept : (a b : ℕ) → a < count → b < count → was a b ≡ true → is a b ≡ true
  kept a b ha hb e = passed a b ha hb ∙ or_left (was a b) (was a through && was through b) e

  joined : (a b : ℕ) → a < count → b < count → was a through ≡ true → was through b ≡ true → is a b ≡ true
  joined a b ha hb d e = passed a b ha hb ∙ or_right (was a b) (was a through && was through b) (both_true (was a through) (was through b) d e)

  -- to the number itself there is nothing new, and from it neither
  to_it : (a : ℕ) → a < count → is a through ≡ true → was a through ≡ true
  to_it a ha e = ⊎_elim (λ (h : was a through ≡ true). h) (λ (h : (was a through ≡ true) × (was through through ≡ true)). h.0) (ways a through ha ht e)

  from_it : (b : ℕ) → b < count → is through b ≡ true → was through b ≡ true
  from_it b hb e = ⊎_elim (λ (h : was through b ≡ true). h) (λ (h : (was through through ≡ true) × (was through b ≡ true)). h.1) (ways through b ht hb e)

  by_lower : (m a b : ℕ) → m < through → a < count → b < count → is a m ≡ true → is m b ≡ true → is a b ≡ true
  by_lower m a b l ha hb d e =
      let hm : m < count = omega arith in
      ⊎_elim
      (λ (am : was a m ≡ true). ⊎_elim
      (λ (mb : was m b ≡ true). kept a b ha hb (so.passes m a b l ha hb am mb))
      (λ (mb : (was m through ≡ true) × (was through b ≡ true)). joined a b ha hb (so.passes m a through l ha ht am mb.0) mb.1)
      (ways m b hm hb e))
      (λ (am : (was a through ≡ true) × (was through m ≡ true)). ⊎_elim
      (λ (mb : was m b ≡ true). joined a b ha hb am.0 (so.passes m through b l ht hb am.1 mb))
      (λ (mb : (was m through ≡ true) × (was through b ≡ true)). joined a b ha hb am.0 mb.1)
      (ways m b hm hb e))
      (ways a m ha hm d)

  pub closing_more : Closing count pairs (through + 1) is
  closing_more = record {
    reflexive = λ a ha. kept a a ha ha (so.reflexive a ha);
    has = λ a b c. let h = pair_below count pairs below a b c in kept a b h.0 h.1 (so.has a b c);
    sound = λ a b ha hb e. ⊎_elim
        (λ (h : was a b ≡ true). so.sound a b ha hb h)
        (λ (h : (was a through ≡ true) × (was through b ≡ true)). reach_after pairs a through b (so.sound a through ha ht h.0) (so.sound through b ht hb h.1))
        (ways a b ha hb e);
    passes = λ m a b l ha hb d e. ⊎_elim
        (λ (lower : m < through). by_lower m a b lower ha hb d e)
        (λ (high : through ≤ m).
        let same : m ≡ through = omega arith in
        joined a b ha hb (to_it a ha (subst (λ (n : ℕ). is a n ≡ true) same d)) (from_it b hb (subst (λ (n : ℕ). is n b ≡ true) same e)))
        (cases_lt m through);
  }

pub closed : (count : ℕ) (pairs : List (ℕ × ℕ)) → AreBelow count pairs → (through : ℕ) (is : ℕ → ℕ → Bool) → count ≤ through → Closing count pairs through is → (a b : ℕ) → a < count → b < count → (is a b ≡ true) ↔ Reaches pairs a b
closed count pairs below through is all so a b ha hb = ((λ e. so.sound a b ha hb e), (λ r. along r.0 a b ha hb r.1))
  where
    along : (xs : List ℕ) (a b : ℕ) → a < count → b < count → IsChain pairs a xs b → is a b ≡ true
    along [] a b ha hb h = subst (λ (x : ℕ). is a x ≡ true) h (so.reflexive a ha)
    along (x ∷ xs) a b ha hb h =
        let hx = (pair_below count pairs below a x h.0).1 in
        so.passes x a b (omega arith) ha hb (so.has a x h.0) (along xs x b hx hb h.1)

-- a matrix so far
pub record MatrixSoFar (count : ℕ) (pairs : List (ℕ × ℕ)) (through : ℕ) (matrix : List Bool) : Type 0 where
  pub size : length matrix ≡ count * count
  pub closing : Closing count pairs through (at count matrix)
