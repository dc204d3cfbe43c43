-- Halving gives each worker one share, and the shares in order are the traces.
use Rattle.std.proofs.Common.{◌≡◌, ℕ, zero, suc, ◌-◌, ◌*◌, ◌/◌, ◌<◌, ◌≤◌, Bool, true, false, List, [], ◌∷◌, ◌++◌, length, length-append, take, drop, refl, sym, ap, ap₂, ◌∙◌, ⊎_elim, arith}
use Rattle.std.proofs.Math.Nat.{div-le_of_le-mul, mul-le-mul_left}
use Rattle.std.proofs.lemmas.Bool.{le-ltb, cases_order}
use Rattle.std.proofs.lemmas.List.{append-nil, take-append-drop}
use Rattle.std.proofs.lemmas.List.Concat.{flat_map-append}
use Rattle.std.specs.List.{flat_map}
use Rattle.trace_rules.specs.Halving.{first_part, halving, shares_of}
use Rattle.trace_rules.proofs.HalvingLemmas.{no_rounds, halving_more}

pub part_within : (n workers : ℕ) → 0 < workers → first_part n workers ≤ n
part_within n workers some = div-le_of_le-mul workers (let h : n * (workers / 2) ≤ n * workers = mul-le-mul_left n (omega arith) in omega arith)

halving_one : {T : Type 0} (rounds workers : ℕ) (xs : List T) → workers ≤ 1 → halving rounds workers xs ≡ xs ∷ []
unfolding halving
halving_one zero workers xs h = refl
halving_one {T} (suc rounds) workers xs h = ap (λ (b : Bool). elim b as (λ _. List (List T)) [
  | true ↦ halving rounds (workers / 2) (take (first_part (length xs) workers) xs) ++ halving rounds (workers - workers / 2) (drop (first_part (length xs) workers) xs)
  | false ↦ xs ∷ []
]) (le-ltb 1 workers h)

-- more rounds than there are workers change nothing
halving_same : {T : Type 0} (rounds others workers : ℕ) (xs : List T) → workers ≤ rounds → workers ≤ others → halving rounds workers xs ≡ halving others workers xs
halving_same zero others workers xs f g = halving_one zero workers xs (omega arith) ∙ sym (halving_one others workers xs (omega arith))
halving_same (suc rounds) zero workers xs f g = halving_one (suc rounds) workers xs (omega arith) ∙ sym (halving_one zero workers xs (omega arith))
halving_same {T} (suc rounds) (suc others) workers xs f g =
    let p = first_part (length xs) workers in
    let a : workers / 2 ≤ workers → 1 < workers → halving rounds (workers / 2) (take p xs) ≡ halving others (workers / 2) (take p xs) = λ _ h. halving_same rounds others (workers / 2) (take p xs) (omega arith) (omega arith) in
    let b : 1 < workers → halving rounds (workers - workers / 2) (drop p xs) ≡ halving others (workers - workers / 2) (drop p xs) = λ h. halving_same rounds others (workers - workers / 2) (drop p xs) (omega arith) (omega arith) in
    ⊎_elim
    (λ (e : 1 ≡ workers). halving_one (suc rounds) workers xs (omega arith) ∙ sym (halving_one (suc others) workers xs (omega arith)))
    (⊎_elim
    (λ (h : 1 < workers). halving_more rounds workers xs h ∙ ap₂ (λ (l m : List (List T)). l ++ m) (a (omega arith) h) (b h) ∙ sym (halving_more others workers xs h))
    (λ (h : workers < 1). halving_one (suc rounds) workers xs (omega arith) ∙ sym (halving_one (suc others) workers xs (omega arith))))
    (cases_order 1 workers)

-- one worker takes all
pub shares_one : {T : Type 0} (xs : List T) (workers : ℕ) → workers ≤ 1 → shares_of xs workers ≡ xs ∷ []
shares_one xs workers h = halving_one workers workers xs h

-- the shares of several workers are those of the two halves
pub shares_split : {T : Type 0} (xs : List T) (workers : ℕ) → 1 < workers
    → shares_of xs workers ≡ shares_of (take (first_part (length xs) workers) xs) (workers / 2) ++ shares_of (drop (first_part (length xs) workers) xs) (workers - workers / 2)
shares_split xs zero h = absurd (omega arith)
shares_split {T} xs (suc less) h =
    let workers = suc less in let p = first_part (length xs) workers in
    halving_more less workers xs h
    ∙ ap₂ (λ (l m : List (List T)). l ++ m) (halving_same less (workers / 2) (workers / 2) (take p xs) (omega arith) (omega arith)) (halving_same less (workers - workers / 2) (workers - workers / 2) (drop p xs) (omega arith) (omega arith))

length_halving : {T : Type 0} (rounds workers : ℕ) (xs : List T) → 0 < workers → workers ≤ rounds → length (halving rounds workers xs) ≡ workers
length_halving zero workers xs some h = absurd (omega arith)
length_halving (suc rounds) workers xs some h =
    let p = first_part (length xs) workers in
    ⊎_elim
    (λ (e : 1 ≡ workers). ap length (halving_one (suc rounds) workers xs (omega arith)) ∙ e)
    (⊎_elim
    (λ (l : 1 < workers).
    let a = length_halving rounds (workers / 2) (take p xs) (omega arith) (omega arith) in
    let b = length_halving rounds (workers - workers / 2) (drop p xs) (omega arith) (omega arith) in
    ap length (halving_more rounds workers xs l) ∙ length-append (halving rounds (workers / 2) (take p xs)) (halving rounds (workers - workers / 2) (drop p xs)) ∙ omega arith)
    (λ (l : workers < 1). absurd (omega arith)))
    (cases_order 1 workers)

-- there is one share for each worker
pub length_shares : {T : Type 0} (xs : List T) (workers : ℕ) → 0 < workers → length (shares_of xs workers) ≡ workers
length_shares xs workers some = length_halving workers workers xs some (omega arith)

whole_halving : {T : Type 0} (rounds workers : ℕ) (xs : List T) → flat_map (λ (x : List T). x) (halving rounds workers xs) ≡ xs
whole_halving {T} zero workers xs = ap (flat_map (λ (x : List T). x)) (no_rounds workers xs) ∙ append-nil xs
whole_halving {T} (suc rounds) workers xs =
    let p = first_part (length xs) workers in
    let id : List T → List T = λ x. x in
    let a = whole_halving rounds (workers / 2) (take p xs) in let b = whole_halving rounds (workers - workers / 2) (drop p xs) in
    ⊎_elim
    (λ (e : 1 ≡ workers). ap (flat_map id) (halving_one (suc rounds) workers xs (omega arith)) ∙ append-nil xs)
    (⊎_elim
    (λ (l : 1 < workers). ap (flat_map id) (halving_more rounds workers xs l) ∙ flat_map-append id (halving rounds (workers / 2) (take p xs)) (halving rounds (workers - workers / 2) (drop p xs))
    ∙ ap₂ (λ (u v : List T). u ++ v) a b ∙ take-append-drop p xs)
    (λ (l : workers < 1). ap (flat_map id) (halving_one (suc rounds) workers xs (omega arith)) ∙ append-nil xs))
    (cases_order 1 workers)

-- the shares in order are the traces
pub whole_shares : {T : Type 0} (xs : List T) (workers : ℕ) → flat_map (λ (x : List T). x) (shares_of xs workers) ≡ xs
whole_shares xs workers = whole_halving workers workers xs
