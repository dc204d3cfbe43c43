-- Free numbers: there are enough, and more only stand behind.
use Rattle.std.proofs.Common.{◌≡◌, ℕ, zero, suc, ◌+◌, ◌-◌, ◌^◌, ◌<◌, ◌≤◌, ◌||◌, not, filter, List, [], ◌∷◌, ◌++◌, Bool, true, false, length, get_or, decimal, refl, sym, ap, ◌∙◌, arith, codes}
use Rattle.std.specs.List.{count_by, list_any, range_with_len}
use Rattle.std.specs.Str.{bytes_eq}
use Rattle.std.proofs.lemmas.Bool.{false_from_ne_true}
use Rattle.std.proofs.lemmas.Fmt.{decimal_injective}
use Rattle.std.proofs.lemmas.List.{get_or_append_left}
use Rattle.std.proofs.lemmas.List.Elements.{filter-append}
use Rattle.std.proofs.lemmas.List.FromFn.{length-range_with_len}
use Rattle.std.proofs.lemmas.List.Sums.{sum_by-cons}
use Rattle.std.proofs.lemmas.Slice.Eq.{bytes_eq-Decides}
use Rattle.task_pieces.specs.PieceNames.{is_free, numbered_name}
use Rattle.task_pieces.proofs.StepLemmas.{bit}

-- ---- texts behind one another

pub same_rest : (a x y : List ℕ) → a ++ x ≡ a ++ y → x ≡ y
same_rest [] x y h = h
same_rest (z ∷ a) x y h = same_rest a x y (ap tail h)
  where
    tail : List ℕ → List ℕ
    tail [] = []
    tail (w ∷ ws) = ws

pub one_number : (stem : List ℕ) (m n : ℕ) → m < 2 ^ 64 → n < 2 ^ 64 → numbered_name stem m ≡ numbered_name stem n → m ≡ n
one_number stem m n p q h = decimal_injective m n p q (same_rest (stem ++ codes "/") (decimal m) (decimal n) h)

-- ---- counting

count-cons : {X : Type 0} (p : X → Bool) (x : X) (xs : List X) → count_by p (x ∷ xs) ≡ bit (p x) + count_by p xs
count-cons p x xs = sum_by-cons (λ y. bit (p y)) x xs

count_either : {X : Type 0} (p q : X → Bool) (xs : List X) → count_by (λ x. p x || q x) xs ≤ count_by p xs + count_by q xs
count_either p q [] = omega arith
count_either p q (x ∷ xs) = by (count_either p q xs) (p x) (q x) refl refl
  where
    by : count_by (λ y. p y || q y) xs ≤ count_by p xs + count_by q xs → (a b : Bool) → p x ≡ a → q x ≡ b → count_by (λ y. p y || q y) (x ∷ xs) ≤ count_by p (x ∷ xs) + count_by q (x ∷ xs)
    by rest a b e f =
        let one : bit (p x || q x) ≡ bit (a || b) = λ i. bit (e i || f i) in
        let two : bit (p x) ≡ bit a = ap bit e in
        let three : bit (q x) ≡ bit b = ap bit f in
        small a b one two three
      where
        small : (a b : Bool) → bit (p x || q x) ≡ bit (a || b) → bit (p x) ≡ bit a → bit (q x) ≡ bit b → count_by (λ y. p y || q y) (x ∷ xs) ≤ count_by p (x ∷ xs) + count_by q (x ∷ xs)
        small true b one two three = omega (arith, rest, count-cons (λ y. p y || q y) x xs, count-cons p x xs, count-cons q x xs, one, two)
        small false true one two three = omega (arith, rest, count-cons (λ y. p y || q y) x xs, count-cons p x xs, count-cons q x xs, one, two, three)
        small false false one two three = omega (arith, rest, count-cons (λ y. p y || q y) x xs, count-cons p x xs, count-cons q x xs, one, two, three)

filter_count : {X : Type 0} (p q : X → Bool) (other : (x : X) → q x ≡ not (p x)) (xs : List X) → length (filter q xs) + count_by p xs ≡ length xs
filter_count p q other [] = refl
filter_count p q other (x ∷ xs) = by (filter_count p q other xs) (p x) refl
  where
    by : length (filter q xs) + count_by p xs ≡ length xs → (a : Bool) → p x ≡ a → length (filter q (x ∷ xs)) + count_by p (x ∷ xs) ≡ length (x ∷ xs)
    by rest true e =
        let dropped : q x ≡ false = other x ∙ ap not e in
        let one : bit (p x) ≡ 1 = ap bit e in
        let kept : length (filter q (x ∷ xs)) ≡ length (filter q xs) = rw dropped refl in
        omega (arith, rest, count-cons p x xs, one, kept)
    by rest false e =
        let stays : q x ≡ true = other x ∙ ap not e in
        let none : bit (p x) ≡ 0 = ap bit e in
        let kept : length (filter q (x ∷ xs)) ≡ suc (length (filter q xs)) = rw stays refl in
        omega (arith, rest, count-cons p x xs, none, kept)

module _ (stem : List ℕ) where
  abbrev is_name : List ℕ → ℕ → Bool
  is_name text n = bytes_eq (numbered_name stem n) text

  abbrev taken : List (List ℕ) → ℕ → Bool
  taken tasks n = list_any (bytes_eq (numbered_name stem n)) tasks

  -- no later number has the name
  none_later : (text : List ℕ) (m a count : ℕ) → m < a → a + count < 2 ^ 64 → is_name text m ≡ true → count_by (is_name text) (range_with_len a count) ≡ 0
  none_later text m a zero lt few h = refl
  none_later text m a (suc count) lt few h =
      let differs : is_name text a ≡ false = false_from_ne_true (is_name text a) (λ e.
      let same = one_number stem m a (omega arith) (omega arith) ((bytes_eq-Decides (numbered_name stem m) text).0 h ∙ sym ((bytes_eq-Decides (numbered_name stem a) text).0 e)) in
      omega arith) in
      let zero_bit : bit (is_name text a) ≡ 0 = ap bit differs in
      omega (arith, none_later text m (a + 1) count (omega arith) (omega arith) h, count-cons (is_name text) a (range_with_len (a + 1) count), zero_bit)

  one_at_most : (text : List ℕ) (a count : ℕ) → a + count < 2 ^ 64 → count_by (is_name text) (range_with_len a count) ≤ 1
  one_at_most text a zero few = omega arith
  one_at_most text a (suc count) few = by (one_at_most text (a + 1) count (omega arith)) (is_name text a) refl
    where
      by : count_by (is_name text) (range_with_len (a + 1) count) ≤ 1 → (b : Bool) → is_name text a ≡ b → count_by (is_name text) (range_with_len a (suc count)) ≤ 1
      by rest true e =
          let one : bit (is_name text a) ≡ 1 = ap bit e in
          omega (arith, none_later text a (a + 1) count (omega arith) (omega arith) e, count-cons (is_name text) a (range_with_len (a + 1) count), one)
      by rest false e =
          let none : bit (is_name text a) ≡ 0 = ap bit e in
          omega (arith, rest, count-cons (is_name text) a (range_with_len (a + 1) count), none)

  few_taken : (tasks : List (List ℕ)) (a count : ℕ) → a + count < 2 ^ 64 → count_by (taken tasks) (range_with_len a count) ≤ length tasks
  few_taken [] a count few = none (range_with_len a count)
    where
      none : (ns : List ℕ) → count_by (taken []) ns ≤ 0
      none [] = omega arith
      none (n ∷ ns) = omega (arith, none ns, count-cons (taken []) n ns)
  few_taken (text ∷ tasks) a count few =
      omega (arith, count_either (is_name text) (taken tasks) (range_with_len a count), one_at_most text a count few, few_taken tasks a count few)

  -- of so many numbers all but a task's each are free
  pub enough : (tasks : List (List ℕ)) (a count : ℕ) → a + count < 2 ^ 64 → count ≤ length (filter (is_free tasks stem) (range_with_len a count)) + length tasks
  enough tasks a count few =
      omega (arith, filter_count (taken tasks) (is_free tasks stem) (λ n. refl) (range_with_len a count), few_taken tasks a count few, length-range_with_len a count)

-- ---- numbers in a row

pub range_more : (a n k : ℕ) → range_with_len a (n + k) ≡ range_with_len a n ++ range_with_len (a + n) k
range_more a zero k = let same : a + 0 ≡ a = omega arith in let none : 0 + k ≡ k = omega arith in ap (range_with_len a) none ∙ ap (λ b. range_with_len b k) (sym same)
range_more a (suc n) k =
    let up : suc n + k ≡ suc (n + k) = omega arith in
    let on : a + 1 + n ≡ a + suc n = omega arith in
    ap (range_with_len a) up ∙ ap (λ ns. a ∷ ns) (range_more (a + 1) n k ∙ ap (λ b. range_with_len (a + 1) n ++ range_with_len b k) on)

-- a filter of more numbers begins with that of fewer
pub filter_more : (p : ℕ → Bool) (a n k : ℕ) → filter p (range_with_len a (n + k)) ≡ filter p (range_with_len a n) ++ filter p (range_with_len (a + n) k)
filter_more p a n k = ap (filter p) (range_more a n k) ∙ filter-append p (range_with_len a n) (range_with_len (a + n) k)

-- a free number has its place among those of any longer row
pub free_at : (p : ℕ → Bool) (a n m i : ℕ) → n ≤ m → i < length (filter p (range_with_len a n)) → get_or (filter p (range_with_len a m)) i 0 ≡ get_or (filter p (range_with_len a n)) i 0
free_at p a n m i le lt =
    let split : n + (m - n) ≡ m = omega arith in
    ap (λ k. get_or (filter p (range_with_len a k)) i 0) (sym split) ∙ ap (λ ns. get_or ns i 0) (filter_more p a n (m - n))
    ∙ get_or_append_left (filter p (range_with_len a n)) (filter p (range_with_len (a + n) (m - n))) 0 i lt
