-- The two readings of a run: the preface, if there is one, and then the input. Each is by itself.
use Rattle.std.specs.Prelude.{ℕ, ◌≡◌, ◌+◌, ◌<◌, ◌≤◌, ◌⊎◌, List, drop, length, map, take}
use Rattle.mystery_io.specs.Input.{input_limit, input_read}
use Rattle.mystery_io.specs.ReadFaults.{FilesSeen, FailedAt, PassedAt}
use Rattle.mystery_io.specs.Readings.{AreEnded, Reading}

-- the preface or the input passes the limit of size
abbrev pub PassesSize : List ℕ → List ℕ → Type 0
PassesSize preface input = (input_limit < length preface) ⊎ (input_limit < length input)

-- neither of the two does
abbrev pub FitsSize : List ℕ → List ℕ → Type 0
FitsSize preface input = (length preface ≤ input_limit) × (length input ≤ input_limit)

-- the first files have these names, each was read to its end, and their input is within the limit
pub record AreReadFirst (seen : FilesSeen) (names : List (List ℕ)) : Type 0 where
  pub named : map (λ (r : Reading). r.name) (take (length names) seen.readings) ≡ names
  pub ended : AreEnded (take (length names) seen.readings)
  pub fits : length (input_read (take (length names) seen.readings)) ≤ input_limit

-- what was seen of the files since these were read
abbrev pub seen_after : List (List ℕ) → FilesSeen → FilesSeen
seen_after names seen = record {
  readings = drop (length names) seen.readings;
  opens_before = seen.opens_before + length names;
  opens_now = seen.opens_now;
}

-- P holds of the file with this index, counted over both readings: of the preface's; or they
-- were read, and P holds of a file of the input, as seen from then on
abbrev pub AtFile : (FilesSeen → List (List ℕ) → ℕ → Type 0) → FilesSeen → List (List ℕ)
    → List (List ℕ) → ℕ → Type 0
AtFile P seen preface files index =
    P seen preface index
    ⊎ ((i : ℕ) × (index ≡ length preface + i) × AreReadFirst seen preface
    × P (seen_after preface seen) files i)

-- the file with this index failed, counted over both readings
abbrev pub FailsAt : FilesSeen → List (List ℕ) → List (List ℕ) → ℕ → Type 0
FailsAt seen preface files index = AtFile FailedAt seen preface files index

-- a reading passes the limit of size in the file with this index
abbrev pub PassesAt : FilesSeen → List (List ℕ) → List (List ℕ) → ℕ → Type 0
PassesAt seen preface files index = AtFile PassedAt seen preface files index
