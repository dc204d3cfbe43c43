-- The piece of an event from that of the event right before it in its task.
use Rattle.std.proofs.Common.{◌≡◌, ℕ, ◌+◌, ◌==◌, ◌&&◌, ◌||◌, not, Bool, true, false, cond, List, [], ◌∷◌, ◌++◌, refl, sym, ap, subst, ◌∙◌, arith}
use Rattle.std.specs.List.{AllByRecursion, count_by, list_any}
use Rattle.std.proofs.lemmas.Bool.{and_left, and_right}
use Rattle.std.proofs.lemmas.Bool.Decides.{nat_tests}
use Rattle.std.proofs.lemmas.List.Sums.{sum_by-append, sum_by-cons}
use Rattle.trace_types.proofs.TruthLemmas.{or_true}
use Rattle.task_pieces.specs.TaskEvents.{TaskEvent, is_before}
use Rattle.task_pieces.specs.Pieces.{ends_wait, is_right_before, piece_of}

-- ---- lists

abbrev pub bit : Bool → ℕ
bit b = cond b 1 0

count_same : {X : Type 0} (p q : X → Bool) (xs : List X) → AllByRecursion (λ x. p x ≡ q x) xs → count_by p xs ≡ count_by q xs
count_same p q [] h = refl
count_same p q (x ∷ xs) h =
    let first : bit (p x) ≡ bit (q x) = ap bit h.0 in
    omega (arith, first, count_same p q xs h.1, sum_by-cons (λ y. bit (p y)) x xs, sum_by-cons (λ y. bit (q y)) x xs)

count_none : {X : Type 0} (p : X → Bool) (xs : List X) → AllByRecursion (λ x. p x ≡ false) xs → count_by p xs ≡ 0
count_none p [] h = refl
count_none p (x ∷ xs) h =
    let first : bit (p x) ≡ 0 = ap bit h.0 in
    omega (arith, first, count_none p xs h.1, sum_by-cons (λ y. bit (p y)) x xs)

any_same : {X : Type 0} (p q : X → Bool) (xs : List X) → AllByRecursion (λ x. p x ≡ q x) xs → list_any p xs ≡ list_any q xs
any_same p q [] h = refl
any_same p q (x ∷ xs) h =
    let first = h.0 in
    let rest = any_same p q xs h.1 in
    λ i. first i || rest i

any_none : {X : Type 0} (p : X → Bool) (xs : List X) → AllByRecursion (λ x. p x ≡ false) xs → list_any p xs ≡ false
any_none p [] h = refl
any_none p (x ∷ xs) h =
    let first = h.0 in
    let rest = any_none p xs h.1 in
    λ i. first i || rest i

-- an element that passes
any_there : {X : Type 0} (p : X → Bool) (front : List X) (x : X) (rest : List X) → p x ≡ true → list_any p (front ++ x ∷ rest) ≡ true
any_there p [] x rest h = ap (λ b. b || list_any p rest) h
any_there p (y ∷ front) x rest h = ap (λ b. p y || b) (any_there p front x rest h) ∙ or_true (p y)

each : {X : Type 0} (P Q : X → Type 0) (xs : List X) → ((x : X) → P x → Q x) → AllByRecursion P xs → AllByRecursion Q xs
each P Q [] f h = tt
each P Q (x ∷ xs) f h = (f x h.0, each P Q xs f h.1)

both : {X : Type 0} (P Q : X → Type 0) (xs : List X) → AllByRecursion P xs → AllByRecursion Q xs → AllByRecursion (λ x. P x × Q x) xs
both P Q [] h k = tt
both P Q (x ∷ xs) h k = ((h.0, k.0), both P Q xs h.1 k.1)

-- one element of a list passes both tests, and no other passes one of them alone
count_one_more : {X : Type 0} (p q : X → Bool) (front : List X) (x : X) (rest : List X) → AllByRecursion (λ y. p y ≡ q y) front → AllByRecursion (λ y. p y ≡ q y) rest → q x ≡ false
    → count_by p (front ++ x ∷ rest) ≡ count_by q (front ++ x ∷ rest) + bit (p x)
count_one_more p q front x rest before after none =
    let one = sum_by-append (λ y. bit (p y)) front (x ∷ rest) in
    let two = sum_by-append (λ y. bit (q y)) front (x ∷ rest) in
    let h = count_same p q front before in
    let k = count_same p q rest after in
    let zero : bit (q x) ≡ 0 = ap bit none in
    omega (arith, one, two, h, k, zero, sum_by-cons (λ y. bit (p y)) x rest, sum_by-cons (λ y. bit (q y)) x rest)

-- ---- pieces

module _ (all : List TaskEvent) (b : TaskEvent) (only_b : AllByRecursion (λ (x : TaskEvent). (x.index == b.index) ≡ true → x ≡ b) all) where
  -- no event of its task is before b
  module _ (none : AllByRecursion (λ x. is_before x b ≡ false) all) where
    first_ends : ends_wait all b ≡ false
    first_ends = and_right b.receives (list_any (λ a. a.sends && is_right_before all a b) all)
        (any_none (λ a. a.sends && is_right_before all a b) all
        (each (λ x. is_before x b ≡ false) (λ x. (x.sends && is_right_before all x b) ≡ false) all
        (λ x h. and_right x.sends (is_right_before all x b) (and_left (is_before x b) (not (list_any (λ c. is_before x c && is_before c b) all)) h)) none))

    none_counts : (x : TaskEvent) → is_before x b ≡ false → ((x.index == b.index) ≡ true → x ≡ b) → (ends_wait all x && (x.index == b.index || is_before x b)) ≡ false
    none_counts x h only = by (x.index == b.index) refl
      where
        by : (t : Bool) → (x.index == b.index) ≡ t → (ends_wait all x && (x.index == b.index || is_before x b)) ≡ false
        by true e = and_left (ends_wait all x) (x.index == b.index || is_before x b) (ap (ends_wait all) (only e) ∙ first_ends)
        by false e = and_right (ends_wait all x) (x.index == b.index || is_before x b) (λ i. e i || h i)

    pub first_piece : piece_of all b ≡ 1
    first_piece = ap (λ n. 1 + n) (count_none (λ c. ends_wait all c && (c.index == b.index || is_before c b)) all
        (each (λ (x : TaskEvent). (is_before x b ≡ false) × ((x.index == b.index) ≡ true → x ≡ b)) (λ x. (ends_wait all x && (x.index == b.index || is_before x b)) ≡ false) all
        (λ x h. none_counts x h.0 h.1) (both (λ x. is_before x b ≡ false) (λ (x : TaskEvent). (x.index == b.index) ≡ true → x ≡ b) all none only_b)))

  -- a is right before b
  module _ (a : TaskEvent) (only_a : AllByRecursion (λ (x : TaskEvent). (x.index == a.index) ≡ true → x ≡ a) all)
      (same : AllByRecursion (λ (x : TaskEvent). is_before x b ≡ (x.index == a.index || is_before x a)) all)
      (front rest : List TaskEvent) (split : all ≡ front ++ b ∷ rest) (there : (p : TaskEvent → Bool) → p a ≡ true → list_any p all ≡ true)
      (ab : is_before a b ≡ true) (aa : is_before a a ≡ false) (ba : is_before b a ≡ false) (apart : (b.index == a.index) ≡ false)
      (flips : (x : TaskEvent) → (is_before a x && is_before x a) ≡ false)
      (others_before : AllByRecursion (λ (x : TaskEvent). (x.index == b.index) ≡ false) front) (others_after : AllByRecursion (λ (x : TaskEvent). (x.index == b.index) ≡ false) rest) where
    between : (x : TaskEvent) → is_before x b ≡ (x.index == a.index || is_before x a) → ((x.index == a.index) ≡ true → x ≡ a) → (is_before a x && is_before x b) ≡ false
    between x h only = by (x.index == a.index) refl
      where
        by : (t : Bool) → (x.index == a.index) ≡ t → (is_before a x && is_before x b) ≡ false
        by true e = and_left (is_before a x) (is_before x b) (ap (is_before a) (only e) ∙ aa)
        by false e = ap (λ t. is_before a x && t) (h ∙ ap (λ t. t || is_before x a) e) ∙ flips x

    right_is : (x : TaskEvent) → is_before x b ≡ (x.index == a.index || is_before x a) → ((x.index == a.index) ≡ true → x ≡ a) → is_right_before all x b ≡ (x.index == a.index)
    right_is x h only = by (x.index == a.index) refl
      where
        inner : (t : Bool) → is_before x a ≡ t → (x.index == a.index) ≡ false → is_right_before all x b ≡ false
        inner true k e =
            let some : list_any (λ c. is_before x c && is_before c b) all ≡ true = there (λ c. is_before x c && is_before c b) (λ i. k i && ab i) in
            and_right (is_before x b) (not (list_any (λ c. is_before x c && is_before c b) all)) (ap not some)
        inner false k e = and_left (is_before x b) (not (list_any (λ c. is_before x c && is_before c b) all)) (h ∙ (λ i. e i || k i))

        by : (t : Bool) → (x.index == a.index) ≡ t → is_right_before all x b ≡ (x.index == a.index)
        by true e =
            let none : list_any (λ c. is_before a c && is_before c b) all ≡ false = any_none (λ c. is_before a c && is_before c b) all
            (each (λ (c : TaskEvent). (is_before c b ≡ (c.index == a.index || is_before c a)) × ((c.index == a.index) ≡ true → c ≡ a)) (λ c. (is_before a c && is_before c b) ≡ false) all (λ c k. between c k.0 k.1)
            (both (λ (c : TaskEvent). is_before c b ≡ (c.index == a.index || is_before c a)) (λ (c : TaskEvent). (c.index == a.index) ≡ true → c ≡ a) all same only_a)) in
            let here : is_right_before all a b ≡ true = λ i. ab i && not (none i) in
            ap (λ c. is_right_before all c b) (only e) ∙ here ∙ sym e
        by false e = inner (is_before x a) refl e ∙ sym e

    sends_is : list_any (λ (x : TaskEvent). x.sends && (x.index == a.index)) all ≡ a.sends
    sends_is = by a.sends refl
      where
        by : (t : Bool) → a.sends ≡ t → list_any (λ (x : TaskEvent). x.sends && (x.index == a.index)) all ≡ a.sends
        by true e = there (λ (x : TaskEvent). x.sends && (x.index == a.index)) (ap (λ t. t && (a.index == a.index)) e ∙ same_number a.index) ∙ sym e
          where
            same_number : (n : ℕ) → (n == n) ≡ true
            same_number n = grind (arith, nat_tests)
        by false e = any_none (λ (x : TaskEvent). x.sends && (x.index == a.index)) all
            (each (λ (x : TaskEvent). (x.index == a.index) ≡ true → x ≡ a) (λ (x : TaskEvent). (x.sends && (x.index == a.index)) ≡ false) all (λ x only. other x only (x.index == a.index) refl) only_a) ∙ sym e
          where
            other : (x : TaskEvent) → ((x.index == a.index) ≡ true → x ≡ a) → (t : Bool) → (x.index == a.index) ≡ t → (x.sends && (x.index == a.index)) ≡ false
            other x only true k = and_left x.sends (x.index == a.index) (ap (λ (y : TaskEvent). y.sends) (only k) ∙ e)
            other x only false k = and_right x.sends (x.index == a.index) k

    pub next_ends : ends_wait all b ≡ (b.receives && a.sends)
    next_ends = ap (λ t. b.receives && t) (any_same (λ x. x.sends && is_right_before all x b) (λ (x : TaskEvent). x.sends && (x.index == a.index)) all
        (each (λ (x : TaskEvent). (is_before x b ≡ (x.index == a.index || is_before x a)) × ((x.index == a.index) ≡ true → x ≡ a)) (λ (x : TaskEvent). (x.sends && is_right_before all x b) ≡ (x.sends && (x.index == a.index))) all
        (λ x h. ap (λ t. x.sends && t) (right_is x h.0 h.1))
        (both (λ (x : TaskEvent). is_before x b ≡ (x.index == a.index || is_before x a)) (λ (x : TaskEvent). (x.index == a.index) ≡ true → x ≡ a) all same only_a)) ∙ sends_is)

    -- counted for b, for b by what is before a, and for a
    abbrev of_b : TaskEvent → Bool
    of_b c = ends_wait all c && (c.index == b.index || is_before c b)

    abbrev by_a : TaskEvent → Bool
    by_a c = ends_wait all c && (c.index == b.index || (c.index == a.index || is_before c a))

    abbrev of_a : TaskEvent → Bool
    of_a c = ends_wait all c && (c.index == a.index || is_before c a)

    other_counts : (c : TaskEvent) → (c.index == b.index) ≡ false → by_a c ≡ of_a c
    other_counts c h = ap (λ t. ends_wait all c && (t || (c.index == a.index || is_before c a))) h

    self : (n : ℕ) → (n == n) ≡ true
    self n = grind (arith, nat_tests)

    and_true : (t : Bool) → (t && true) ≡ t
    and_true true = refl
    and_true false = refl

    pub next_piece : piece_of all b ≡ piece_of all a + bit (b.receives && a.sends)
    next_piece =
        let moved : count_by of_b all ≡ count_by by_a all = count_same of_b by_a all
        (each (λ (x : TaskEvent). is_before x b ≡ (x.index == a.index || is_before x a)) (λ x. of_b x ≡ by_a x) all (λ x h. ap (λ t. ends_wait all x && (x.index == b.index || t)) h) same) in
        let last : by_a b ≡ ends_wait all b = ap (λ t. ends_wait all b && (t || (b.index == a.index || is_before b a))) (self b.index) ∙ and_true (ends_wait all b) in
        let none : of_a b ≡ false = and_right (ends_wait all b) (b.index == a.index || is_before b a) (λ i. apart i || ba i) in
        let more : count_by by_a all ≡ count_by of_a all + bit (by_a b) = subst (λ (xs : List TaskEvent). count_by by_a xs ≡ count_by of_a xs + bit (by_a b)) (sym split)
        (count_one_more by_a of_a front b rest (each (λ (x : TaskEvent). (x.index == b.index) ≡ false) (λ x. by_a x ≡ of_a x) front other_counts others_before)
        (each (λ (x : TaskEvent). (x.index == b.index) ≡ false) (λ x. by_a x ≡ of_a x) rest other_counts others_after) none) in
        let value : bit (by_a b) ≡ bit (b.receives && a.sends) = ap bit (last ∙ next_ends) in
        omega (arith, moved, more, value)
