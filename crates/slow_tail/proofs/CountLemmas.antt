-- Counts of the elements that pass a test.
use Rattle.std.proofs.Common.{◌≡◌, ◌+◌, ◌≤◌, Bool, true, false, cond, List, [], ◌∷◌, ◌++◌, map, length, All, arith, refl, sym, ap, ◌∙◌}
use Rattle.std.specs.Prelude.{count_by}
use Rattle.std.proofs.lemmas.Bool.{false≢true}
use Rattle.std.proofs.lemmas.List.Elements.{All-nil, All-cons, All-head, All-tail}
use Rattle.std.proofs.lemmas.List.Sums.{sum_by-append, sum_by-cons, sum_by-le-sum_by}

-- one more element in front
pub count_cons : {X : Type 0} (p : X → Bool) (x : X) (xs : List X) → count_by p (x ∷ xs) ≡ cond (p x) 1 0 + count_by p xs
count_cons p x xs = sum_by-cons (λ y. cond (p y) 1 0) x xs

-- where all pass, the count is the length; where none does, it is 0
pub count_all : {X : Type 0} (p : X → Bool) (xs : List X) → All (λ x. p x ≡ true) xs → count_by p xs ≡ length xs
count_all p [] all = refl
count_all p (x ∷ xs) all =
    let one = All-head (λ y. p y ≡ true) x xs all in
    let rest = count_all p xs (All-tail (λ y. p y ≡ true) x xs all) in
    let last : 1 + count_by p xs ≡ length (x ∷ xs) = omega arith in
    count_cons p x xs ∙ (ap (λ (b : Bool). cond b 1 0 + count_by p xs) one ∙ last)

pub count_none : {X : Type 0} (p : X → Bool) (xs : List X) → All (λ x. p x ≡ false) xs → count_by p xs ≡ 0
count_none p [] all = refl
count_none p (x ∷ xs) all =
    let one = All-head (λ y. p y ≡ false) x xs all in
    let rest = count_none p xs (All-tail (λ y. p y ≡ false) x xs all) in
    let last : 0 + count_by p xs ≡ 0 = omega arith in
    count_cons p x xs ∙ (ap (λ (b : Bool). cond b 1 0 + count_by p xs) one ∙ last)

-- where the count is 0, none passes
pub none_counted : {X : Type 0} (p : X → Bool) (xs : List X) → count_by p xs ≡ 0 → All (λ x. p x ≡ false) xs
none_counted p [] none = All-nil (λ x. p x ≡ false)
none_counted p (x ∷ xs) none = go (λ rest. none_counted p xs rest) (p x) refl
  where
    go : (count_by p xs ≡ 0 → All (λ y. p y ≡ false) xs) → (b : Bool) → p x ≡ b → All (λ y. p y ≡ false) (x ∷ xs)
    go told true e = let many = count_cons p x xs ∙ ap (λ (t : Bool). cond t 1 0 + count_by p xs) e in absurd (omega arith)
    go told false e =
        let many = count_cons p x xs ∙ ap (λ (t : Bool). cond t 1 0 + count_by p xs) e in
        All-cons (λ y. p y ≡ false) x xs e (told (omega arith))

-- where each element that passes one test passes the other, the count is not less
pub count_le : {X : Type 0} (p q : X → Bool) → ((x : X) → p x ≡ true → q x ≡ true) → (xs : List X) → count_by p xs ≤ count_by q xs
count_le p q more xs = sum_by-le-sum_by (λ x. cond (p x) 1 0) (λ x. cond (q x) 1 0) xs (λ x. one (p x) (q x) (more x))
  where
    one : (a b : Bool) → (a ≡ true → b ≡ true) → cond a 1 0 ≤ cond b 1 0
    one true true h = omega arith
    one true false h = absurd (false≢true (h refl))
    one false b h = omega arith

-- the count of a list around one element
pub count_split : {X : Type 0} (p : X → Bool) (b : Bool) (low : List X) (m : X) (high : List X) → p m ≡ b → count_by p (low ++ m ∷ high) ≡ count_by p low + (cond b 1 0 + count_by p high)
count_split p b low m high is = sum_by-append (λ x. cond (p x) 1 0) low (m ∷ high)
    ∙ ap (λ k. count_by p low + k) (count_cons p m high ∙ ap (λ (t : Bool). cond t 1 0 + count_by p high) is)

-- the count of a mapped list
pub count_map : {X Y : Type 0} (p : Y → Bool) (f : X → Y) (xs : List X) → count_by p (map f xs) ≡ count_by (λ x. p (f x)) xs
count_map p f [] = refl
count_map p f (x ∷ xs) = count_cons p (f x) (map f xs) ∙ (ap (λ k. cond (p (f x)) 1 0 + k) (count_map p f xs) ∙ sym (count_cons (λ y. p (f y)) x xs))
