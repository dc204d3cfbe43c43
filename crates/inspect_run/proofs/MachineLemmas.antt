-- The first of many machines.
use Rattle.std.proofs.Common.{◌≡◌, ℕ, ◌≤◌, ◌<◌, List, [], ◌∷◌, ◌++◌, length, map, take, ap, ◌∙◌, sym, refl, arith, ⊎_elim}
use Rattle.std.specs.Prelude.{min}
use Rattle.std.specs.List.{flat_map}
use Rattle.std.proofs.lemmas.Bool.{cases_lt}
use Rattle.std.proofs.lemmas.List.{take-map, take_all}
use Rattle.std.proofs.lemmas.List.Concat.{flat_map-cons}

-- rows of what is mapped
rows_mapped : (g : List ℕ → List ℕ) (f : ℕ → List ℕ) (ms : List ℕ) → flat_map (λ m. g (f m)) ms ≡ flat_map g (map f ms)
rows_mapped g f [] = refl
rows_mapped g f (m ∷ ms) =
    flat_map-cons (λ m. g (f m)) m ms ∙ ap (λ (t : List ℕ). g (f m) ++ t) (rows_mapped g f ms) ∙ sym (flat_map-cons g (f m) (map f ms))

-- the first ones, of at most so many
taken : (ms : List ℕ) (most count : ℕ) → count ≡ min (length ms) most → take count ms ≡ take most ms
taken ms most count is = ⊎_elim
    (λ (less : length ms < most). take_all count ms (omega (arith, is)) ∙ sym (take_all most ms (omega arith)))
    (λ (more : most ≤ length ms). let same : count ≡ most = omega (arith, is) in ap (λ (n : ℕ). take n ms) same)
    (cases_lt (length ms) most)

pub first_rows : (g : List ℕ → List ℕ) (f : ℕ → List ℕ) (ms : List ℕ) (names : List (List ℕ)) (most count : ℕ) → count ≡ min (length ms) most → map f ms ≡ names → flat_map (λ m. g (f m)) (take count ms) ≡ flat_map g (take most names)
first_rows g f ms names most count is are =
    ap (flat_map (λ m. g (f m))) (taken ms most count is) ∙ rows_mapped g f (take most ms)
    ∙ ap (flat_map g) (sym (take-map f most ms) ∙ ap (take most) are)
