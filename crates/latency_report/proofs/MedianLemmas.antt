-- The median and the greatest of a list.
use Rattle.std.proofs.Common.{◌≡◌, ◌⊎◌, ℕ, ◌+◌, ◌-◌, ◌*◌, ◌/◌, ◌<◌, ◌≤◌, Bool, true, false, cond, eqb, List, [], ◌∷◌, ◌++◌, length, get_or, max, All, Contains, arith, refl, sym, ap, ◌∙◌, subst, ⊎_elim}
use Rattle.std.specs.Prelude.{nat_lt, nat_le, count_by, sum}
use Rattle.std.specs.List.Sorted.{IsPermutation, IsSplitAround}
use Rattle.std.specs.Ordering.{nat_cmp, is_lt}
use Rattle.std.specs.declared.cmp.Ordering.TheVariants.{Less, Equal, Greater}
use Rattle.std.proofs.lemmas.Bool.{cases_lt, lt-ltb, le-ltb, false≢true}
use Rattle.std.proofs.lemmas.Bool.Decides.{nat_tests}
use Rattle.std.proofs.lemmas.List.{length-append}
use Rattle.std.proofs.lemmas.List.Elements.{All-from_get_or, All-head, All-tail, All-nil, All-cons, All-push, Contains-push, Contains-append_left, Contains-append_right}
use Rattle.std.proofs.lemmas.List.Sorted.{Contains-permutation, IsPermutation-sym, length_permutation, sum_by-IsPermutation}
use Rattle.std.proofs.lemmas.List.Sums.{count_by-le-length, sum_by-append, sum_by-cons}
use Rattle.trace_rules.specs.Numbers.{IsGreatest, IsMedian, OrZero}

-- where all pass, the count is the length; where none does, it is 0
count_all : (p : ℕ → Bool) (xs : List ℕ) → All (λ x. p x ≡ true) xs → count_by p xs ≡ length xs
count_all p [] all = refl
count_all p (x ∷ xs) all =
    let one = All-head (λ y. p y ≡ true) x xs all in
    let rest = count_all p xs (All-tail (λ y. p y ≡ true) x xs all) in
    let last : 1 + count_by p xs ≡ length (x ∷ xs) = omega arith in
    sum_by-cons (λ y. cond (p y) 1 0) x xs ∙ (ap (λ (b : Bool). cond b 1 0 + count_by p xs) one ∙ last)

count_none : (p : ℕ → Bool) (xs : List ℕ) → All (λ x. p x ≡ false) xs → count_by p xs ≡ 0
count_none p [] all = refl
count_none p (x ∷ xs) all =
    let one = All-head (λ y. p y ≡ false) x xs all in
    let rest = count_none p xs (All-tail (λ y. p y ≡ false) x xs all) in
    let last : 0 + count_by p xs ≡ 0 = omega arith in
    sum_by-cons (λ y. cond (p y) 1 0) x xs ∙ (ap (λ (b : Bool). cond b 1 0 + count_by p xs) one ∙ last)

-- what is not less
not_less : (x y : ℕ) → is_lt (nat_cmp x y) ≡ false → y ≤ x
not_less x y h = ⊎_elim
    (λ (l : x < y). absurd (false≢true (sym h ∙ less x y l)))
    (λ (le : y ≤ x). le)
    (cases_lt x y)
  where
    less : (a b : ℕ) → a < b → is_lt (nat_cmp a b) ≡ true
    less a b l = ap (λ (t : Bool). is_lt (cond t Less (cond (eqb a b) Equal Greater))) (lt-ltb a b l)

pub median_from_split : (numbers low high : List ℕ) (m middle : ℕ) → middle ≡ (length numbers - 1) / 2 → IsPermutation numbers (low ++ m ∷ high) → length low ≡ middle → IsSplitAround nat_cmp low m high → IsMedian numbers m
median_from_split numbers low high m middle at moved size split = record {
  member = Contains-permutation (low ++ m ∷ high) numbers m (IsPermutation-sym numbers (low ++ m ∷ high) moved) (Contains-append_right low (m ∷ high) m (0, omega arith, refl));
  less =
      let whole = counted (λ n. nat_lt n m) false (le-ltb m m (omega arith)) in
      let above : count_by (λ n. nat_lt n m) high ≡ 0 = count_none (λ n. nat_lt n m) high (λ k d lt. le-ltb (get_or high k d) m (not_less (get_or high k d) m (split.1 k d lt))) in
      let below = count_by-le-length (λ n. nat_lt n m) low in
      omega arith;
  at_most =
      let whole = counted (λ n. nat_le n m) true (le-leb m m (omega arith)) in
      let below : count_by (λ n. nat_le n m) low ≡ length low = count_all (λ n. nat_le n m) low (λ k d lt. le-leb (get_or low k d) m (not_less m (get_or low k d) (split.0 k d lt))) in
      omega arith;
}
  where
    counted : (p : ℕ → Bool) (b : Bool) → p m ≡ b → count_by p numbers ≡ count_by p low + (cond b 1 0 + count_by p high)
    counted p b is = sym (sum_by-IsPermutation (λ n. cond (p n) 1 0) numbers (low ++ m ∷ high) moved)
        ∙ (sum_by-append (λ n. cond (p n) 1 0) low (m ∷ high) ∙ ap (λ k. count_by p low + k) (sum_by-cons (λ n. cond (p n) 1 0) m high ∙ ap (λ (t : Bool). cond t 1 0 + count_by p high) is))

    le-leb : (a b : ℕ) → a ≤ b → nat_le a b ≡ true
    le-leb a b le = grind (arith, nat_tests)

-- the greatest after one more number
pub greatest_push : (numbers : List ℕ) (g n : ℕ) → OrZero IsGreatest numbers g → OrZero IsGreatest (numbers ++ n ∷ []) (max g n)
greatest_push [] g n none = record {
  member = (0, omega arith, let e : n ≡ max g n = omega (arith, none) in e);
  none_greater = λ k d lt. All-cons (λ x. x ≤ max g n) n [] (omega arith) (All-nil (λ x. x ≤ max g n)) k d lt;
}
greatest_push (x ∷ xs) g n is = record {
  member = ⊎_elim
      (λ (l : g < n). let e : n ≡ max g n = omega arith in subst (Contains (x ∷ xs ++ n ∷ [])) e (Contains-push (x ∷ xs) n))
      (λ (ge : n ≤ g). let e : g ≡ max g n = omega arith in subst (Contains (x ∷ xs ++ n ∷ [])) e (Contains-append_left (x ∷ xs) (n ∷ []) g is.member))
      (cases_lt g n);
  none_greater = All-push (λ y. y ≤ max g n) (x ∷ xs) n (λ k d lt. let l = is.none_greater k d lt in omega arith) (omega arith);
}

-- of a list with members the figure is as asked
pub or_zero : (Is : List ℕ → ℕ → Type 0) (xs : List ℕ) (m : ℕ) → (length xs ≡ 0 → ⊥) → Is xs m → OrZero Is xs m
or_zero Is [] m some is = absurd (some refl)
or_zero Is (x ∷ xs) m some is = is

-- the greater of two numbers, as it is computed
pub max_is : (a b : ℕ) → cond (is_lt (nat_cmp b a)) a b ≡ max a b
max_is a b = ⊎_elim
    (λ (l : b < a). ap (λ (t : Bool). cond (is_lt (cond t Less (cond (eqb b a) Equal Greater))) a b) (lt-ltb b a l) ∙ (let e : a ≡ max a b = omega arith in e))
    (λ (le : a ≤ b). ap (λ (t : Bool). cond (is_lt (cond t Less (cond (eqb b a) Equal Greater))) a b) (le-ltb b a le) ∙ (other (eqb b a) ∙ (let e : b ≡ max a b = omega arith in e)))
    (cases_lt b a)
  where
    other : (t : Bool) → cond (is_lt (cond t Equal Greater)) a b ≡ b
    other true = refl
    other false = refl
