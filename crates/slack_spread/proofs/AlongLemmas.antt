-- The members of numbers in rising order.
use Rattle.std.proofs.Common.{◌≡◌, ℕ, suc, ◌+◌, ◌-◌, ◌*◌, ◌/◌, ◌<◌, ◌≤◌, Bool, true, false, cond, List, [], ◌∷◌, length, get_or, take, drop, All, arith, refl, sym, ap, ◌∙◌, subst}
use Rattle.std.specs.Prelude.{nat_lt, nat_le, count_by}
use Rattle.std.specs.List.Sorted.{IsPermutation, IsSorted, IsNonDecreasing}
use Rattle.std.specs.Ordering.{nat_cmp}
use Rattle.std.proofs.Math.Nat.{div-mul-le_self, mul-le-mul_left}
use Rattle.std.proofs.Math.Seq.{split_at}
use Rattle.std.proofs.lemmas.Bool.{le-ltb}
use Rattle.std.proofs.lemmas.Bool.Decides.{nat_tests}
use Rattle.std.proofs.lemmas.Grind.{get_or_default_zero}
use Rattle.std.proofs.lemmas.List.{get_or-take, get_or-drop, length-take, length-drop}
use Rattle.std.proofs.lemmas.List.Elements.{All-head, All-tail, Contains-get_or}
use Rattle.std.proofs.lemmas.List.Sorted.{Contains-permutation, IsPermutation-sym, IsNonDecreasingBy-from_sort, sum_by-IsPermutation}
use Rattle.std.proofs.lemmas.List.Sums.{count_by-le-length, sum_by-append, sum_by-cons}
use Rattle.slack_spread.specs.Spreads.{IsAlong, IsAtIndex}
use Rattle.trace_rules.specs.Numbers.{OrZero}

-- where all pass, the count is the length; where none does, it is 0
count_all : (p : ℕ → Bool) (xs : List ℕ) → All (λ x. p x ≡ true) xs → count_by p xs ≡ length xs
count_all p [] all = refl
count_all p (x ∷ xs) all =
    let one = All-head (λ y. p y ≡ true) x xs all in
    let rest = count_all p xs (All-tail (λ y. p y ≡ true) x xs all) in
    let last : 1 + count_by p xs ≡ length (x ∷ xs) = omega arith in
    sum_by-cons (λ y. cond (p y) 1 0) x xs ∙ (ap (λ (b : Bool). cond b 1 0 + count_by p xs) one ∙ last)

count_none : (p : ℕ → Bool) (xs : List ℕ) → All (λ x. p x ≡ false) xs → count_by p xs ≡ 0
count_none p [] all = refl
count_none p (x ∷ xs) all =
    let one = All-head (λ y. p y ≡ false) x xs all in
    let rest = count_none p xs (All-tail (λ y. p y ≡ false) x xs all) in
    let last : 0 + count_by p xs ≡ 0 = omega arith in
    sum_by-cons (λ y. cond (p y) 1 0) x xs ∙ (ap (λ (b : Bool). cond b 1 0 + count_by p xs) one ∙ last)

-- the member at an index, once the numbers rise
module _ (numbers sorted : List ℕ) (moved : IsPermutation numbers sorted) (up : IsNonDecreasing sorted) (i : ℕ) (inside : i < length sorted) where
  abbrev m : ℕ
  m = get_or sorted i 0

  counted : (p : ℕ → Bool) (b : Bool) → p m ≡ b → count_by p numbers ≡ count_by p (take i sorted) + (cond b 1 0 + count_by p (drop (suc i) sorted))
  counted p b is =
      sym (sum_by-IsPermutation (λ n. cond (p n) 1 0) numbers sorted moved)
      ∙ (ap (count_by p) (split_at sorted i 0 inside)
      ∙ (sum_by-append (λ n. cond (p n) 1 0) (take i sorted) (m ∷ drop (suc i) sorted)
      ∙ ap (λ k. count_by p (take i sorted) + k) (sum_by-cons (λ n. cond (p n) 1 0) m (drop (suc i) sorted) ∙ ap (λ (t : Bool). cond t 1 0 + count_by p (drop (suc i) sorted)) is)))

  size : length (take i sorted) ≡ i
  size = let n = length-take i sorted in omega arith

  le-leb : (a b : ℕ) → a ≤ b → nat_le a b ≡ true
  le-leb a b le = grind (arith, nat_tests)

  last_end : (k : ℕ) → k < length (drop (suc i) sorted) → suc i + k < length sorted
  last_end k lt = let n = length-drop (suc i) sorted in omega arith

  pub IsAtIndex-sorted : IsAtIndex numbers i m
  IsAtIndex-sorted = record {
    member = Contains-permutation sorted numbers m (IsPermutation-sym numbers sorted moved) (Contains-get_or sorted i 0 inside);
    less =
        let whole = counted (λ n. nat_lt n m) false (le-ltb m m (omega arith)) in
        let above : count_by (λ n. nat_lt n m) (drop (suc i) sorted) ≡ 0 = count_none (λ n. nat_lt n m) (drop (suc i) sorted) (λ k d lt. ap (λ n. nat_lt n m) (get_or-drop (suc i) sorted k d) ∙ le-ltb (get_or sorted (suc i + k) d) m (higher k d lt)) in
        let below = count_by-le-length (λ n. nat_lt n m) (take i sorted) in
        let few = size in
        omega arith;
    at_most =
        let whole = counted (λ n. nat_le n m) true (le-leb m m (omega arith)) in
        let below : count_by (λ n. nat_le n m) (take i sorted) ≡ length (take i sorted) = count_all (λ n. nat_le n m) (take i sorted) (λ k d lt. let few = size in ap (λ n. nat_le n m) (get_or-take i sorted k d (omega arith)) ∙ le-leb (get_or sorted k d) m (lower k d (omega arith))) in
        let few = size in
        omega arith;
  }
    where
      -- a read with any default is that with 0
      same : (k d : ℕ) → k < length sorted → get_or sorted k d ≡ get_or sorted k 0
      same k d lt = get_or_default_zero sorted k d lt

      lower : (k d : ℕ) → k < i → get_or sorted k d ≤ m
      lower k d lt =
          let e = same k d (omega arith) in
          let le : get_or sorted k 0 ≤ get_or sorted i 0 = up k i 0 (omega arith) inside in
          omega arith

      higher : (k d : ℕ) → k < length (drop (suc i) sorted) → m ≤ get_or sorted (suc i + k) d
      higher k d lt =
          let room = last_end k lt in
          let e = same (suc i + k) d room in
          let le : get_or sorted i 0 ≤ get_or sorted (suc i + k) 0 = up i (suc i + k) 0 (omega arith) room in
          omega arith

-- of numbers with members, once they rise, the one so many tenths along
pub IsAlong-sorted : (tenths : ℕ) (numbers sorted : List ℕ) (m : ℕ) → tenths ≤ 10 → 0 < length numbers → length sorted ≡ length numbers → IsPermutation numbers sorted → IsSorted nat_cmp sorted
    → m ≡ get_or sorted ((length sorted - 1) * tenths / 10) 0 → OrZero (IsAlong tenths) numbers m
IsAlong-sorted tenths [] sorted m le some same moved up is = absurd (omega arith)
IsAlong-sorted tenths (x ∷ xs) sorted m le some same moved up is =
    let index : ℕ = (length sorted - 1) * tenths / 10 in
    let at : index ≡ (length (x ∷ xs) - 1) * tenths / 10 = ap (λ (n : ℕ). (n - 1) * tenths / 10) same in
    let low = div-mul-le_self ((length sorted - 1) * tenths) 10 in
    let room = mul-le-mul_left (length sorted - 1) le in
    subst (λ (j : ℕ). IsAtIndex (x ∷ xs) j m) at
    (subst (IsAtIndex (x ∷ xs) index) (sym is)
    (IsAtIndex-sorted (x ∷ xs) sorted moved (IsNonDecreasingBy-from_sort (λ (n : ℕ). n) sorted up) index (omega arith)))
