-- Numbers of pairs.
use Rattle.std.proofs.Common.{◌≡◌, ℕ, zero, suc, ◌+◌, ◌-◌, ◌*◌, ◌/◌, ◌<◌, ◌≤◌, refl, ◌∙◌, ap, ⊎_elim, arith}
use Rattle.std.proofs.lemmas.Bool.{cases_order}
use Rattle.hypothesis_index.specs.declared.relation.Relation.TheVariants.{Before, Exclusive, Apart, Pipe, Unshared}
use Rattle.hypothesis_index.specs.declared.relation.Relation.{Relation}
use Rattle.hypothesis_index.specs.Places.{pairs_below, IsRelation, NamesBelow}

pub pairs_below-zero : pairs_below 0 ≡ 0
unfolding pairs_below
pairs_below-zero = refl

pub pairs_below-one : pairs_below 1 ≡ 0
unfolding pairs_below
pairs_below-one = refl

-- the product of two neighbours is even
half : (k : ℕ) → (t : ℕ) × (suc k * k ≡ 2 * t)
half zero = (0, refl)
half (suc k) = let h = half k in let e : suc k * k ≡ 2 * h.0 = h.1 in (h.0 + suc k, omega arith)

shape : (k : ℕ) → pairs_below (suc k) ≡ suc k * k / 2
unfolding pairs_below
shape k = let e : suc k - 1 ≡ k = omega arith in ap (λ (m : ℕ). suc k * m / 2) e

pub pairs_below-suc : (n : ℕ) → pairs_below (suc n) ≡ pairs_below n + n
pairs_below-suc zero = omega (arith, pairs_below-one, pairs_below-zero)
pairs_below-suc (suc k) = let h = half k in let j = half (suc k) in let e : suc k * k ≡ 2 * h.0 = h.1 in let f : suc (suc k) * suc k ≡ 2 * j.0 = j.1 in omega (arith, shape k, shape (suc k))

pub pairs_below-512 : pairs_below 512 ≡ 130816
unfolding pairs_below
pairs_below-512 = refl

pub pairs_below-64 : pairs_below 64 ≡ 2016
unfolding pairs_below
pairs_below-64 = refl

-- all pairs of numbers up to i stand before those of a greater j
pub pairs_below-gap : (i j : ℕ) → i < j → pairs_below i + i ≤ pairs_below j
pairs_below-gap i zero h = absurd (omega arith)
pairs_below-gap i (suc j) h = ⊎_elim
    (λ (e : i ≡ j). omega (arith, ap pairs_below e, pairs_below-suc j))
    (⊎_elim (λ (l : i < j). omega (arith, pairs_below-gap i j l, pairs_below-suc j)) (λ (l : j < i). absurd (omega arith)))
    (cases_order i j)

pub pair-below : (i j n : ℕ) → i < j → j < n → pairs_below j + i < pairs_below n
pair-below i j n h l = omega (arith, pairs_below-gap j n l)

pub same_pair : (i j k l : ℕ) → i < j → k < l → pairs_below j + i ≡ pairs_below l + k → (i ≡ k) × (j ≡ l)
same_pair i j k l h h' e = ⊎_elim
    (λ (s : j ≡ l). let f : pairs_below j ≡ pairs_below l = ap pairs_below s in (omega arith, s))
    (⊎_elim (λ (s : j < l). absurd (omega (arith, pairs_below-gap j l s))) (λ (s : l < j). absurd (omega (arith, pairs_below-gap l j s))))
    (cases_order j l)

-- up to 512 numbers have few enough pairs
pub pairs_below-small : (n : ℕ) → n ≤ 512 → pairs_below n ≤ 130816
pairs_below-small n h = ⊎_elim
    (λ (e : n ≡ 512). omega (arith, ap pairs_below e, pairs_below-512))
    (⊎_elim (λ (l : n < 512). omega (arith, pairs_below-gap n 512 l, pairs_below-512)) (λ (l : 512 < n). absurd (omega arith)))
    (cases_order n 512)

-- the greater number of a pair that stands early is small
pub early : (i j n : ℕ) → pairs_below j + i < pairs_below n → j < n
early i j n h = ⊎_elim
    (λ (e : j ≡ n). absurd (let f : pairs_below j ≡ pairs_below n = ap pairs_below e in omega arith))
    (⊎_elim (λ (l : j < n). l) (λ (l : n < j). absurd (omega (arith, pairs_below-gap n j l))))
    (cases_order j n)

pub pairs_below-step : (n : ℕ) → pairs_below (n + 1) ≡ pairs_below n + n
pairs_below-step n = let e : n + 1 ≡ suc n = omega arith in ap pairs_below e ∙ pairs_below-suc n

-- all names are below 512
pub all_below : (r : Relation) → IsRelation r → NamesBelow 512 r
all_below (Before a b) is = (is.1, is.2)
all_below (Exclusive a b) is = is.1
all_below (Apart a b) is = is.1
all_below (Pipe t u) is = tt
all_below (Unshared t u) is = tt
