-- Counts of what is there once at most.
use Rattle.std.proofs.Common.{◌≡◌, ◌⊎◌, inl, inr, ℕ, zero, suc, ◌+◌, ◌*◌, ◌<◌, ◌≤◌, List, [], ◌∷◌, All, Bool, true, cond, eqb, Some, get_or, slice_get, refl, ap, ◌∙◌, arith, eq-eqb}
use Rattle.std.proofs.Math.Nat.{mul-le-mul, mul-zero, zero-mul}
use Rattle.std.specs.List.{count_by, range_with_len, sum_by}
use Rattle.std.proofs.lemmas.Bool.{cases_eq, cases_lt, ne_eqb}
use Rattle.std.proofs.lemmas.List.Elements.{All-from_get_or}
use Rattle.std.proofs.lemmas.List.Sums.{sum_by-cons}
use Rattle.thread_steps.proofs.GapLemmas.{count-cons}

pub some_inj : {X : Type 0} (x y : X) → Some x ≡ Some y → x ≡ y
some_inj x y h = cc

pub all_of : {X : Type 0} (P : X → Type 0) (xs : List X) → ((x : X) → P x) → All P xs
all_of P [] h = λ k d lt. absurd (let e : ⊥ = omega (arith, lt) in e)
all_of P (x ∷ xs) h = All-from_get_or P (x ∷ xs) x (λ i lt. h (get_or (x ∷ xs) i x))

pub sum_same : {X : Type 0} (f g : X → ℕ) (xs : List X) → ((x : X) → f x ≡ g x) → sum_by f xs ≡ sum_by g xs
sum_same f g [] h = refl
sum_same f g (x ∷ xs) h = omega (arith, sum_by-cons f x xs, sum_by-cons g x xs, h x, sum_same f g xs h)

pub sum_add : {X : Type 0} (f g h : X → ℕ) (xs : List X) → ((x : X) → f x ≡ g x + h x) → sum_by f xs ≡ sum_by g xs + sum_by h xs
sum_add f g h [] all = refl
sum_add f g h (x ∷ xs) all = omega (arith, sum_by-cons f x xs, sum_by-cons g x xs, sum_by-cons h x xs, all x, sum_add f g h xs all)

pub sum_zero : {X : Type 0} (f : X → ℕ) (xs : List X) → ((x : X) → f x ≡ 0) → sum_by f xs ≡ 0
sum_zero f [] h = refl
sum_zero f (x ∷ xs) h = omega (arith, sum_by-cons f x xs, h x, sum_zero f xs h)

module _ {X : Type 0} (p : X → Bool) where
  pub count_found : (xs : List X) (i : ℕ) (x : X) → slice_get xs i ≡ Some x → p x ≡ true → 0 < count_by p xs
  count_found [] i x at passes = cc
  count_found (y ∷ xs) zero x at passes = omega (arith, count-cons p y xs, ap (λ b. cond {A = ℕ} b 1 0) (ap p (some_inj y x at) ∙ passes))
  count_found (y ∷ xs) (suc i) x at passes = omega (arith, count-cons p y xs, count_found xs i x at passes)

  -- what is there once at most is there at one place
  pub count_apart : (xs : List X) → count_by p xs ≤ 1 → (i j : ℕ) (x y : X) → slice_get xs i ≡ Some x → slice_get xs j ≡ Some y → p x ≡ true → p y ≡ true → i ≡ j
  count_apart [] few i j x y at there one other = cc
  count_apart (z ∷ xs) few zero zero x y at there one other = refl
  count_apart (z ∷ xs) few zero (suc j) x y at there one other =
      absurd (let e : ⊥ = omega (arith, few, count-cons p z xs, ap (λ b. cond {A = ℕ} b 1 0) (ap p (some_inj z x at) ∙ one), count_found xs j y there other) in e)
  count_apart (z ∷ xs) few (suc i) zero x y at there one other =
      absurd (let e : ⊥ = omega (arith, few, count-cons p z xs, ap (λ b. cond {A = ℕ} b 1 0) (ap p (some_inj z y there) ∙ other), count_found xs i x at one) in e)
  count_apart (z ∷ xs) few (suc i) (suc j) x y at there one other = ap suc (count_apart xs (omega (arith, few, count-cons p z xs)) i j x y at there one other)

pub range_none : (f : ℕ → ℕ) (a n : ℕ) → ((c : ℕ) → a ≤ c → c < a + n → f c ≡ 0) → sum_by f (range_with_len a n) ≡ 0
range_none f a zero h = refl
range_none f a (suc n) h =
    omega (arith, sum_by-cons f a (range_with_len (a + 1) n), h a (omega arith) (omega arith), range_none f (a + 1) n (λ c low high. h c (omega (arith, low)) (omega (arith, high))))

-- of a range one number weighs at most
pub range_one : (f : ℕ → ℕ) (a n : ℕ) → ((c : ℕ) → c < a + n → f c ≤ 1) → ((c d : ℕ) → c < a + n → d < a + n → 0 < f c → 0 < f d → c ≡ d) → sum_by f (range_with_len a n) ≤ 1
range_one f a zero small one = omega arith
range_one f a (suc n) small one = by (cases_lt 0 (f a)) (range_one f (a + 1) n (λ c lt. small c (omega (arith, lt))) (λ c d lt less. one c d (omega (arith, lt)) (omega (arith, less))))
  where
    by : (0 < f a) ⊎ (f a ≤ 0) → sum_by f (range_with_len (a + 1) n) ≤ 1 → sum_by f (range_with_len a (suc n)) ≤ 1
    by (inl some) rest =
        omega (arith, sum_by-cons f a (range_with_len (a + 1) n), small a (omega arith), range_none f (a + 1) n (λ c low high. light c low high (cases_lt 0 (f c))))
      where
        light : (c : ℕ) → a + 1 ≤ c → c < a + 1 + n → (0 < f c) ⊎ (f c ≤ 0) → f c ≡ 0
        light c low high (inl more) = absurd (let same : a ≡ c = one a c (omega arith) (omega (arith, high)) some more in let e : ⊥ = omega (arith, same, low) in e)
        light c low high (inr none) = omega (arith, none)
    by (inr none) rest = omega (arith, sum_by-cons f a (range_with_len (a + 1) n), none, rest)

-- one number of a range is picked
pub range_pick : (f : ℕ → ℕ) (t a n : ℕ) → a ≤ t → t < a + n → sum_by (λ c. cond (eqb c t) 1 0 * f c) (range_with_len a n) ≡ f t
range_pick f t a zero low high = absurd (let e : ⊥ = omega (arith, low, high) in e)
range_pick f t a (suc n) low high = sum_by-cons (λ c. cond (eqb c t) 1 0 * f c) a (range_with_len (a + 1) n) ∙ by (cases_eq a t) (range_pick f t (a + 1) n)
  where
    by : (a ≡ t) ⊎ (a ≡ t → ⊥) → (a + 1 ≤ t → t < a + 1 + n → sum_by (λ c. cond (eqb c t) 1 0 * f c) (range_with_len (a + 1) n) ≡ f t)
        → cond (eqb a t) 1 0 * f a + sum_by (λ c. cond (eqb c t) 1 0 * f c) (range_with_len (a + 1) n) ≡ f t
    by (inl same) rest =
        ap (λ b. cond b 1 0 * f a + sum_by (λ c. cond (eqb c t) 1 0 * f c) (range_with_len (a + 1) n)) (eq-eqb a t same)
        ∙ ap (λ m. 1 * f a + m) (range_none (λ c. cond (eqb c t) 1 0 * f c) (a + 1) n (λ c more less. ap (λ b. cond b 1 0 * f c) (ne_eqb c t (λ e. let gone : ⊥ = omega (arith, e, same, more) in gone)) ∙ zero-mul (f c)))
        ∙ (let e : 1 * f a + 0 ≡ f a = omega arith in e) ∙ ap f same
    by (inr other) rest =
        ap (λ b. cond b 1 0 * f a + sum_by (λ c. cond (eqb c t) 1 0 * f c) (range_with_len (a + 1) n)) (ne_eqb a t other)
        ∙ (let e : 0 * f a + sum_by (λ c. cond (eqb c t) 1 0 * f c) (range_with_len (a + 1) n) ≡ sum_by (λ c. cond (eqb c t) 1 0 * f c) (range_with_len (a + 1) n) = omega arith in e)
        ∙ rest (behind other) (omega (arith, high))
      where
        behind : (a ≡ t → ⊥) → a + 1 ≤ t
        behind other = omega (arith, low, other)

pub product_small : (x y : ℕ) → x ≤ 1 → y ≤ 1 → x * y ≤ 1
product_small x y one other = mul-le-mul one other

pub left_some : (x y : ℕ) → 0 < x * y → 0 < x
left_some zero y h = absurd (let e : ⊥ = omega (arith, h, zero-mul y) in e)
left_some (suc x) y h = omega arith

pub right_some : (x y : ℕ) → 0 < x * y → 0 < y
right_some x zero h = absurd (let e : ⊥ = omega (arith, h, mul-zero x) in e)
right_some x (suc y) h = omega arith
