-- Fields of a line: too few or too many, and the first 6.
use Rattle.std.proofs.Common.{◌≡◌, ℕ, ◌<◌, ◌≤◌, List, [], ◌∷◌, length, map, take, None, arith, refl}
use Rattle.std.specs.Borrow.{Bor}
use Rattle.trace_types.specs.Segments.{SegmentName}
use Rattle.digest_reading.specs.DigestRows.{day_of_fields, name_of_fields, task_of_fields}
use Rattle.digest_reading.specs.Headers.{counts_said}

pub header_below : (fs : List (Bor (List ℕ))) → length fs < 5 → None ≡ counts_said (map (λ f. f.now) fs)
header_below [] h = refl
header_below (a ∷ []) h = refl
header_below (a ∷ b ∷ []) h = refl
header_below (a ∷ b ∷ c ∷ []) h = refl
header_below (a ∷ b ∷ c ∷ d ∷ []) h = refl
header_below (a ∷ b ∷ c ∷ d ∷ e ∷ fs) h = absurd (omega arith)

pub header_above : (fs : List (Bor (List ℕ))) → 6 ≤ length fs → None ≡ counts_said (map (λ f. f.now) fs)
header_above [] h = absurd (omega arith)
header_above (a ∷ []) h = absurd (omega arith)
header_above (a ∷ b ∷ []) h = absurd (omega arith)
header_above (a ∷ b ∷ c ∷ []) h = absurd (omega arith)
header_above (a ∷ b ∷ c ∷ d ∷ []) h = absurd (omega arith)
header_above (a ∷ b ∷ c ∷ d ∷ e ∷ []) h = absurd (omega arith)
header_above (a ∷ b ∷ c ∷ d ∷ e ∷ f ∷ fs) h = refl

pub header_first : (fs : List (List ℕ)) → counts_said (take 6 fs) ≡ counts_said fs
header_first [] = refl
header_first (a ∷ []) = refl
header_first (a ∷ b ∷ []) = refl
header_first (a ∷ b ∷ c ∷ []) = refl
header_first (a ∷ b ∷ c ∷ d ∷ []) = refl
header_first (a ∷ b ∷ c ∷ d ∷ e ∷ []) = refl
header_first (a ∷ b ∷ c ∷ d ∷ e ∷ f ∷ fs) = refl

pub day_below : (es : List ℕ) (fs : List (Bor (List ℕ))) → length fs < 2 → None ≡ day_of_fields es (map (λ f. f.now) fs)
day_below es [] h = refl
day_below es (a ∷ []) h = refl
day_below es (a ∷ b ∷ fs) h = absurd (omega arith)

pub day_above : (es : List ℕ) (fs : List (Bor (List ℕ))) → 3 ≤ length fs → None ≡ day_of_fields es (map (λ f. f.now) fs)
day_above es [] h = absurd (omega arith)
day_above es (a ∷ []) h = absurd (omega arith)
day_above es (a ∷ b ∷ []) h = absurd (omega arith)
day_above es (a ∷ b ∷ c ∷ fs) h = refl

pub day_first : (es : List ℕ) (fs : List (List ℕ)) → day_of_fields es (take 6 fs) ≡ day_of_fields es fs
day_first es [] = refl
day_first es (a ∷ []) = refl
day_first es (a ∷ b ∷ []) = refl
day_first es (a ∷ b ∷ c ∷ fs) = refl

pub task_first : (es : List (List ℕ × List ℕ)) (fs : List (List ℕ)) → task_of_fields es (take 6 fs) ≡ task_of_fields es fs
task_first es [] = refl
task_first es (a ∷ []) = refl
task_first es (a ∷ b ∷ []) = refl
task_first es (a ∷ b ∷ c ∷ []) = refl
task_first es (a ∷ b ∷ c ∷ d ∷ fs) = refl

pub name_first : (ts : List (List ℕ × List ℕ)) (es : List (SegmentName × List ℕ)) (fs : List (List ℕ)) → name_of_fields ts es (take 6 fs) ≡ name_of_fields ts es fs
name_first ts es [] = refl
name_first ts es (a ∷ []) = refl
name_first ts es (a ∷ b ∷ []) = refl
name_first ts es (a ∷ b ∷ c ∷ []) = refl
name_first ts es (a ∷ b ∷ c ∷ d ∷ []) = refl
name_first ts es (a ∷ b ∷ c ∷ d ∷ e ∷ []) = refl
name_first ts es (a ∷ b ∷ c ∷ d ∷ e ∷ f ∷ fs) = refl
