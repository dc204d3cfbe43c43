-- Fields of a line: too few or too many, and the first 12.
use Rattle.std.proofs.Common.{◌≡◌, ℕ, suc, ◌<◌, ◌≤◌, List, [], ◌∷◌, length, map, take, false, None, arith, refl}
use Rattle.std.specs.Borrow.{Bor}
use Rattle.certificates.specs.Claims.{are_header_fields}
use Rattle.certificates.specs.inner.ClaimParts.{names_then_place, parted_claim, place_said, tasks_then_place}

-- ---- how many there are

pub header_below : (fs : List (Bor (List ℕ))) → length fs < 3 → false ≡ are_header_fields (map (λ f. f.now) fs)
header_below [] h = refl
header_below (a ∷ []) h = refl
header_below (a ∷ b ∷ []) h = refl
header_below (a ∷ b ∷ c ∷ fs) h = absurd (omega arith)

pub header_above : (fs : List (Bor (List ℕ))) → 4 ≤ length fs → false ≡ are_header_fields (map (λ f. f.now) fs)
header_above [] h = absurd (omega arith)
header_above (a ∷ []) h = absurd (omega arith)
header_above (a ∷ b ∷ []) h = absurd (omega arith)
header_above (a ∷ b ∷ c ∷ []) h = absurd (omega arith)
header_above (a ∷ b ∷ c ∷ d ∷ fs) h = refl

pub names_below : (fs : List (Bor (List ℕ))) → length fs < 6 → None ≡ names_then_place (map (λ f. f.now) fs)
names_below [] h = refl
names_below (a ∷ []) h = refl
names_below (a ∷ b ∷ []) h = refl
names_below (a ∷ b ∷ c ∷ []) h = refl
names_below (a ∷ b ∷ c ∷ d ∷ []) h = refl
names_below (a ∷ b ∷ c ∷ d ∷ e ∷ []) h = refl
names_below (a ∷ b ∷ c ∷ d ∷ e ∷ f ∷ fs) h = absurd (omega arith)

pub claim_below : (n : ℕ) (fs : List (Bor (List ℕ))) → length fs < 2 → None ≡ parted_claim n (map (λ f. f.now) fs)
claim_below n [] h = refl
claim_below n (a ∷ []) h = refl
claim_below n (a ∷ b ∷ fs) h = absurd (omega arith)

-- ---- the first 12 tell

pub header_first : (fs : List (List ℕ)) → are_header_fields (take 12 fs) ≡ are_header_fields fs
header_first [] = refl
header_first (a ∷ []) = refl
header_first (a ∷ b ∷ []) = refl
header_first (a ∷ b ∷ c ∷ []) = refl
header_first (a ∷ b ∷ c ∷ d ∷ fs) = refl

place_first : (m : ℕ) (fs : List (List ℕ)) → place_said (take (suc (suc (suc (suc m)))) fs) ≡ place_said fs
place_first m [] = refl
place_first m (a ∷ []) = refl
place_first m (a ∷ b ∷ []) = refl
place_first m (a ∷ b ∷ c ∷ []) = refl
place_first m (a ∷ b ∷ c ∷ d ∷ fs) = refl

names_first : (fs : List (List ℕ)) → names_then_place (take 10 fs) ≡ names_then_place fs
names_first [] = refl
names_first (a ∷ []) = refl
names_first (a ∷ b ∷ []) = refl
names_first (a ∷ b ∷ c ∷ []) = refl
names_first (a ∷ b ∷ c ∷ d ∷ []) = refl
names_first (a ∷ b ∷ c ∷ d ∷ e ∷ []) = refl
names_first (a ∷ b ∷ c ∷ d ∷ e ∷ f ∷ fs) = rw (place_first 0 fs) refl

tasks_first : (fs : List (List ℕ)) → tasks_then_place (take 10 fs) ≡ tasks_then_place fs
tasks_first [] = refl
tasks_first (a ∷ []) = refl
tasks_first (a ∷ b ∷ fs) = rw (place_first 4 fs) refl

pub claim_first : (n : ℕ) (fs : List (List ℕ)) → parted_claim n (take 12 fs) ≡ parted_claim n fs
claim_first n [] = refl
claim_first n (a ∷ []) = refl
claim_first n (a ∷ b ∷ fs) = rw (names_first fs, tasks_first fs) refl
