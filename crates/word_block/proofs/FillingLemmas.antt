-- Places that hold words, and places that are filled one after another.
use Rattle.std.proofs.Common.{◌≡◌, ℕ, zero, suc, ◌+◌, ◌-◌, ◌<◌, List, [], ◌∷◌, ◌++◌, map, length, get_or, set, replicate, Option, Some, None, refl, sym, ap, ◌∙◌, arith}
use Rattle.std.proofs.lemmas.List.{length-map}
use Rattle.word_block.specs.inner.Filling.{words_of, IsEmptyAt, IsFilled}

pub words_of-some : (xs : List ℕ) → words_of (map Some xs) ≡ xs
words_of-some [] = refl
words_of-some (x ∷ xs) = ap (λ l. x ∷ l) (words_of-some xs)

pub is_filled : (n : ℕ) (xs : List ℕ) → length xs ≡ n → IsFilled n (map Some xs)
is_filled n xs e = (length-map xs Some ∙ e, ap (map Some) (sym (words_of-some xs)))

pub count_words : (n : ℕ) (cs : List (Option ℕ)) → IsFilled n cs → length cs ≡ length (words_of cs)
count_words n cs f = ap length f.1 ∙ length-map (words_of cs) Some

-- k zeros, and m empty places after them
abbrev pub zeros_then : ℕ → ℕ → List (Option ℕ)
zeros_then k m = replicate k (Some 0) ++ replicate m None

length-zeros : (k m : ℕ) → length (zeros_then k m) ≡ k + m
length-zeros zero zero = refl
length-zeros zero (suc m) = omega (arith, length-zeros zero m)
length-zeros (suc k) m = omega (arith, length-zeros k m)

empty_next : (k m : ℕ) → get_or (zeros_then k (suc m)) k None ≡ None
empty_next zero m = refl
empty_next (suc k) m = empty_next k m

set_next : (k m : ℕ) → set (zeros_then k (suc m)) k (Some 0) ≡ zeros_then (suc k) m
set_next zero m = refl
set_next (suc k) m = ap (λ l. Some 0 ∷ l) (set_next k m)

zeros_all : (k : ℕ) → zeros_then k 0 ≡ map Some (replicate k 0)
zeros_all zero = refl
zeros_all (suc k) = ap (λ l. Some 0 ∷ l) (zeros_all k)

-- the first k of n places are 0, and the others are empty
abbrev pub IsZeroTo : ℕ → ℕ → List (Option ℕ) → Type 0
IsZeroTo k n cs = cs ≡ zeros_then k (n - k)

pub next_empty : (k n : ℕ) (cs : List (Option ℕ)) → IsZeroTo k n cs → k < n → IsEmptyAt k cs
next_empty k n cs e below =
    let more : n - k ≡ suc (n - k - 1) = omega arith in
    let is : cs ≡ zeros_then k (suc (n - k - 1)) = e ∙ ap (zeros_then k) more in
    (omega (arith, ap length is, length-zeros k (suc (n - k - 1))), ap (λ l. get_or l k None) is ∙ empty_next k (n - k - 1))

pub one_more : (k n : ℕ) (cs : List (Option ℕ)) → IsZeroTo k n cs → k < n → IsZeroTo (k + 1) n (set cs k (Some 0))
one_more k n cs e below =
    let more : n - k ≡ suc (n - (k + 1)) = omega arith in
    let step : suc k ≡ k + 1 = omega arith in
    ap (λ l. set l k (Some 0)) (e ∙ ap (zeros_then k) more) ∙ set_next k (n - (k + 1)) ∙ ap (λ j. zeros_then j (n - (k + 1))) step

pub all_zero : (k n : ℕ) (cs : List (Option ℕ)) → IsZeroTo k n cs → k ≡ n → cs ≡ map Some (replicate n 0)
all_zero k n cs e done =
    let none : n - k ≡ 0 = omega arith in
    e ∙ ap (zeros_then k) none ∙ zeros_all k ∙ ap (λ j. map Some (replicate j 0)) done
