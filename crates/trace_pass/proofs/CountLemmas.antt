-- How many numbers below a bound pass a test, and how many bits of words are 0.
use Rattle.std.proofs.Common.{◌≡◌, ◌≢◌, ℕ, zero, suc, ◌+◌, ◌-◌, ◌*◌, ◌/◌, ◌%◌, ◌^◌, ◌<◌, ◌≤◌, Bool, true, false, cond, not, ◌&&◌, ◌==◌, List, [], ◌∷◌, length, get_or, refl, sym, ap, ◌∙◌, ⊎_elim, arith, div-add-mod'}
use Rattle.std.proofs.Math.Nat.{pow-suc}
use Rattle.std.proofs.lemmas.Bool.{cases_eq, eq-eqb, eqb-true, false≢true, ne_eqb}
use Rattle.std.proofs.lemmas.List.Kept.{AllPairs-cons}
use Rattle.std.proofs.lemmas.Nat.{ones_cat}
use Rattle.std.proofs.lemmas.Nat.Bits.{bit_at-lt, bit_at-suc, bit_at_lowest, bit_at_not}
use Rattle.std.specs.Int.{bit_at, bit_not, count_zeros, w64}
use Rattle.std.specs.Int.RustNames.{count_ones}
use Rattle.std.specs.List.{All, AllPairs}
use Rattle.word_rows.specs.Words.{AreWords, bit_of}
use Rattle.trace_types.proofs.TruthLemmas.{and_false}
use Rattle.trace_pass.specs.Counts.{zeros}

abbrev one_if : Bool → ℕ
one_if b = cond b 1 0

unfoldable pub count_below : (ℕ → Bool) → ℕ → ℕ
count_below p zero = 0
count_below p (suc n) = one_if (p n) + count_below p n

count_none : (p : ℕ → Bool) (n : ℕ) → n ≡ 0 → count_below p n ≡ 0
unfolding count_below
count_none p zero e = refl
count_none p (suc n) e = absurd (omega arith)

count_suc : (p : ℕ → Bool) (n : ℕ) → count_below p (suc n) ≡ one_if (p n) + count_below p n
unfolding count_below
count_suc p n = refl

count_same : (p q : ℕ → Bool) (n : ℕ) → ((k : ℕ) → k < n → p k ≡ q k) → count_below p n ≡ count_below q n
count_same p q zero f = count_none p 0 refl ∙ sym (count_none q 0 refl)
count_same p q (suc n) f =
    let rest : count_below p n ≡ count_below q n = count_same p q n (λ k l. f k (omega arith)) in
    let here : one_if (p n) ≡ one_if (q n) = ap (λ (b : Bool). one_if b) (f n (omega arith)) in
    let a = count_suc p n in let b = count_suc q n in omega arith

one_le : (b c : Bool) → (b ≡ true → c ≡ true) → one_if b ≤ one_if c
one_le true true f = omega arith
one_le true false f = absurd (false≢true (f refl))
one_le false c f = omega arith

count_le : (p q : ℕ → Bool) (n : ℕ) → ((k : ℕ) → k < n → p k ≡ true → q k ≡ true) → count_below p n ≤ count_below q n
count_le p q zero f = let a = count_none p 0 refl in omega arith
count_le p q (suc n) f =
    let rest : count_below p n ≤ count_below q n = count_le p q n (λ k l. f k (omega arith)) in
    let here = one_le (p n) (q n) (f n (omega arith)) in
    let a = count_suc p n in let b = count_suc q n in omega arith

count_cat : (p : ℕ → Bool) (a n m : ℕ) → m ≡ a + n → count_below p m ≡ count_below p a + count_below (λ k. p (a + k)) n
count_cat p a zero m e = let z = count_none (λ k. p (a + k)) 0 refl in let s : count_below p m ≡ count_below p a = ap (count_below p) (omega arith) in omega arith
count_cat p a (suc n) m e =
    let s : count_below p m ≡ count_below p (suc (a + n)) = ap (count_below p) (omega arith) in
    let h = count_suc p (a + n) in let t = count_suc (λ k. p (a + k)) n in
    let r = count_cat p a n (a + n) refl in omega arith

-- ---- without one number

abbrev without : (ℕ → Bool) → ℕ → ℕ → Bool
without p k m = p m && not (m == k)

and-true : (b : Bool) → (b && true) ≡ b
and-true true = refl
and-true false = refl

without_same : (p : ℕ → Bool) (k m : ℕ) → (m ≡ k → ⊥) → without p k m ≡ p m
without_same p k m ne = ap (λ (b : Bool). p m && not b) (ne_eqb m k ne) ∙ and-true (p m)

without_here : (p : ℕ → Bool) (k m : ℕ) → m ≡ k → without p k m ≡ false
without_here p k m e = ap (λ (b : Bool). p m && not b) (eq-eqb m k e) ∙ and_false (p m)

count_without : (p : ℕ → Bool) (n k : ℕ) → k < n → p k ≡ true → count_below p n ≡ suc (count_below (without p k) n)
count_without p zero k l h = absurd (omega arith)
count_without p (suc n) k l h = ⊎_elim
    (λ (e : n ≡ k).
    let rest : count_below (without p k) n ≡ count_below p n = count_same (without p k) p n (λ m l. without_same p k m (λ f. omega arith)) in
    let one : one_if (p n) ≡ 1 = ap (λ (b : Bool). one_if b) (ap p e ∙ h) in
    let none : one_if (without p k n) ≡ 0 = ap (λ (b : Bool). one_if b) (without_here p k n e) in
    let a = count_suc p n in let b = count_suc (without p k) n in
    let r : count_below p (suc n) ≡ suc (count_below (without p k) (suc n)) = omega arith in r)
    (λ (ne : n ≡ k → ⊥).
    let rest = count_without p n k (omega arith) h in
    let same : one_if (without p k n) ≡ one_if (p n) = ap (λ (b : Bool). one_if b) (without_same p k n ne) in
    let a = count_suc p n in let b = count_suc (without p k) n in
    let r : count_below p (suc n) ≡ suc (count_below (without p k) (suc n)) = omega arith in r)
    (cases_eq n k)

-- things with different numbers below n, each of which passes, are no more than the numbers that pass
pub pigeons : {X : Type 0} (f : X → ℕ) (p : ℕ → Bool) (n : ℕ) (xs : List X) → AllPairs (λ x y. f x ≢ f y) xs → All (λ x. (f x < n) × (p (f x) ≡ true)) xs → length xs ≤ count_below p n
pigeons f p n [] differ each = omega arith
pigeons f p n (x ∷ xs) differ each =
    let here = each 0 x (omega arith) in
    let w = count_without p n (f x) here.0 here.1 in
    let rest : length xs ≤ count_below (without p (f x)) n = pigeons f (without p (f x)) n xs (λ i j d l h. differ (suc i) (suc j) d (omega arith) (omega arith))
    (λ k d l. let at = each (suc k) d (omega arith) in (at.0, without_same p (f x) (f (get_or xs k d)) (λ e. differ 0 (suc k) d (omega arith) (omega arith) (sym e)) ∙ at.1)) in
    omega arith

-- as many different things as there are numbers below n that pass, each with its own number
pub chosen : {X : Type 0} (f : X → ℕ) (Good : X → Type 0) (p : ℕ → Bool) (n : ℕ) → ((k : ℕ) → k < n → p k ≡ true → (x : X) × (f x ≡ k) × Good x)
    → (xs : List X) × AllPairs (λ x y. x ≢ y) xs × All (λ x. (f x < n) × Good x) xs × (length xs ≡ count_below p n)
chosen f Good p zero pick = ([], (λ i j d l h. absurd (omega arith)), (λ k d l. absurd (omega arith)), sym (count_none p 0 refl))
chosen {X} f Good p (suc n) pick = by (chosen f Good p n (λ k l h. pick k (omega arith) h)) (p n) refl
  where
    wider : (xs : List X) → All (λ x. (f x < n) × Good x) xs → All (λ x. (f x < suc n) × Good x) xs
    wider xs each k d l = let at = each k d l in let less : f (get_or xs k d) < n = at.0 in (omega arith, at.1)

    more : (x : X) (xs : List X) → (f x < suc n) × Good x → All (λ x. (f x < suc n) × Good x) xs → All (λ x. (f x < suc n) × Good x) (x ∷ xs)
    more x xs h each zero d l = h
    more x xs h each (suc k) d l = each k d (omega arith)

    by : ((xs : List X) × AllPairs (λ x y. x ≢ y) xs × All (λ x. (f x < n) × Good x) xs × (length xs ≡ count_below p n)) → (b : Bool) → p n ≡ b → (xs : List X) × AllPairs (λ x y. x ≢ y) xs × All (λ x. (f x < suc n) × Good x) xs × (length xs ≡ count_below p (suc n))
    by r false e = let one : one_if (p n) ≡ 0 = ap (λ (b : Bool). one_if b) e in let s = count_suc p n in let len : length r.0 ≡ count_below p n = r.3 in
        (r.0, r.1, wider r.0 r.2, omega arith)
    by r true e = let one : one_if (p n) ≡ 1 = ap (λ (b : Bool). one_if b) e in let s = count_suc p n in let len : length r.0 ≡ count_below p n = r.3 in
        let x = pick n (omega arith) e in let same : f x.0 ≡ n = x.1 in (
          x.0 ∷ r.0,
          AllPairs-cons (λ x y. x ≢ y) x.0 r.0 (λ k d l g. let at = r.2 k d l in let less : f (get_or r.0 k d) < n = at.0 in let eq : f x.0 ≡ f (get_or r.0 k d) = ap f g in absurd (omega arith)) r.1,
          more x.0 r.0 (omega arith, x.2) (wider r.0 r.2),
          omega arith,
        )

-- ---- the bits of words

low_one : (x : ℕ) → x < 2 → count_ones x ≡ one_if (x == 1)
unfolding count_ones
low_one zero h = refl
low_one (suc zero) h = refl
low_one (suc (suc x)) h = absurd (omega arith)

ones_halves : (a : ℕ) → count_ones a ≡ count_ones (a / 2) + count_ones (a % 2)
ones_halves a = ap count_ones (sym (div-add-mod' a 2)) ∙ ones_cat 1 (a / 2) (a % 2) (omega arith)

no_ones : count_ones 0 ≡ 0
unfolding count_ones
no_ones = refl

ones_count : (k a : ℕ) → a < 2 ^ k → count_ones a ≡ count_below (λ b. bit_at a b == 1) k
ones_count zero a h = let z : a ≡ 0 = omega arith in ap count_ones z ∙ no_ones ∙ sym (count_none (λ b. bit_at a b == 1) 0 refl)
ones_count (suc k) a h =
    let p = pow-suc 2 k in let half : a / 2 < 2 ^ k = omega arith in
    let test : ℕ → Bool = λ b. bit_at a b == 1 in
    let ih : count_ones (a / 2) ≡ count_below (λ b. bit_at (a / 2) b == 1) k = ones_count k (a / 2) half in
    let s = ones_halves a in
    let cat : count_below test (suc k) ≡ count_below test 1 + count_below (λ b. test (1 + b)) k = count_cat test 1 k (suc k) (omega arith) in
    let shift : count_below (λ b. test (1 + b)) k ≡ count_below (λ b. bit_at (a / 2) b == 1) k = count_same (λ b. test (1 + b)) (λ b. bit_at (a / 2) b == 1) k (λ b l. ap (λ (m : ℕ). bit_at a m == 1) (let e : 1 + b ≡ suc b = omega arith in e) ∙ ap (λ (m : ℕ). m == 1) (bit_at-suc a b)) in
    let first : count_below test 1 ≡ one_if (test 0) + count_below test 0 = count_suc test 0 in
    let none = count_none test 0 refl in
    let low : one_if (test 0) ≡ count_ones (a % 2) = ap (λ (m : ℕ). one_if (m == 1)) (bit_at_lowest a) ∙ sym (low_one (a % 2) (omega arith)) in
    omega arith

flip_one : (v : ℕ) → v < 2 → (1 - v == 1) ≡ (v == 0)
flip_one zero h = refl
flip_one (suc zero) h = refl
flip_one (suc (suc v)) h = absurd (omega arith)

zeros_of_word : (x : ℕ) → x < 2 ^ 64 → count_zeros w64 x ≡ count_below (λ b. bit_at x b == 0) 64
zeros_of_word x h = ones_count 64 (bit_not w64 x) (omega arith)
    ∙ count_same (λ b. bit_at (bit_not w64 x) b == 1) (λ b. bit_at x b == 0) 64 (λ b l. ap (λ (m : ℕ). m == 1) (bit_at_not w64 x b h l) ∙ flip_one (bit_at x b) (bit_at-lt x b))

-- the bit with this number, 64 of them a word, is 0
abbrev pub is_zero : List ℕ → ℕ → Bool
is_zero words k = bit_of words (k / 64) (k % 64) == 0

pub zeros_count : (words : List ℕ) → AreWords words → zeros words ≡ count_below (is_zero words) (64 * length words)
zeros_count [] bound = sym (count_none (is_zero []) (64 * length {A = ℕ} []) refl)
zeros_count (x ∷ xs) bound =
    let test : ℕ → Bool = is_zero (x ∷ xs) in
    let ih = zeros_count xs (λ i h. bound (suc i) (omega arith)) in
    let word = zeros_of_word x (bound 0 (omega arith)) in
    let cat = count_cat test 64 (64 * length xs) (64 * length (x ∷ xs)) (omega arith) in
    let low : count_below test 64 ≡ count_below (λ b. bit_at x b == 0) 64 = count_same test (λ b. bit_at x b == 0) 64 (λ k l. at_first k l) in
    let high : count_below (λ k. test (64 + k)) (64 * length xs) ≡ count_below (is_zero xs) (64 * length xs) = count_same (λ k. test (64 + k)) (is_zero xs) (64 * length xs) (λ k l. at_later k) in
    omega arith
  where
    at_first : (k : ℕ) → k < 64 → is_zero (x ∷ xs) k ≡ (bit_at x k == 0)
    at_first k l = let q : k / 64 ≡ 0 = omega arith in let r : k % 64 ≡ k = omega arith in ap (λ (i : ℕ). bit_of (x ∷ xs) i (k % 64) == 0) q ∙ ap (λ (b : ℕ). bit_at x b == 0) r

    at_later : (k : ℕ) → is_zero (x ∷ xs) (64 + k) ≡ is_zero xs k
    at_later k = let q : (64 + k) / 64 ≡ suc (k / 64) = omega arith in let r : (64 + k) % 64 ≡ k % 64 = omega arith in ap (λ (i : ℕ). bit_of (x ∷ xs) i ((64 + k) % 64) == 0) q ∙ ap (λ (b : ℕ). bit_of xs (k / 64) b == 0) r

-- words with the bits that others lack have no more zeros
pub zeros_le : (words others : List ℕ) → AreWords words → AreWords others → length others ≡ length words
    → ((i b : ℕ) → i < length words → b < 64 → bit_of words i b ≡ 0 → bit_of others i b ≡ 0) → zeros words ≤ zeros others
zeros_le words others wb ob long keep =
    let a = zeros_count words wb in let b = zeros_count others ob in
    let s : count_below (is_zero others) (64 * length others) ≡ count_below (is_zero others) (64 * length words) = ap (λ (n : ℕ). count_below (is_zero others) (64 * n)) long in
    let le = count_le (is_zero words) (is_zero others) (64 * length words) (λ k l h. eq-eqb _ 0 (keep (k / 64) (k % 64) (omega arith) (omega arith) (eqb-true (bit_of words (k / 64) (k % 64)) 0 h))) in
    omega arith
