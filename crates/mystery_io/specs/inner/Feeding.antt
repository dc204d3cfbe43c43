-- Bytes that are kept in a buffer on their way to an intake.
use Rattle.std.specs.Prelude.{ℕ, ◌≡◌, ◌+◌, ◌++◌, ◌<◌, ◌≤◌, List, [], ◌∷◌, length, take, vec_len}
use Rattle.std.specs.Prelude.{Bool, true, map, if◌then◌else◌}
use Rattle.mystery_io.specs.Input.{ended, ends_line, input_limit, input_read}
use Rattle.mystery_io.specs.Readings.{AreEnded, Reading, after_bytes}
use Rattle.mystery_io.specs.declared.feeder.Feeder.{Feeder}

-- the buffer has bytes, the numbers are in their limits, and the intake takes what may still come
pub record IsFeeder {I : Type 0} (room : I → ℕ) (ready : I → Type 0) (f : Feeder I) : Type 0 where
  pub some : 0 < vec_len f.buffer
  pub within : f.filled ≤ vec_len f.buffer
  pub counted : f.filled ≤ f.count
  pub fits : f.count ≤ input_limit
  pub ahead : input_limit + f.filled ≤ f.count + room f.intake
  pub able : ready f.intake

-- these are all bytes so far: those that were taken, and then those in the buffer
pub record Holds {I : Type 0} (took : I → List ℕ → Type 0) (f : Feeder I) (bytes : List ℕ)
    : Type 0 where
  pub taken : List ℕ
  pub before : took f.intake taken
  pub joined : bytes ≡ taken ++ take f.filled f.buffer.items

-- no byte comes
pub record KeepsBytes {I : Type 0} (took : I → List ℕ → Type 0) (old new : Feeder I)
    : Type 0 where
  pub all : (bytes : List ℕ) → Holds took old bytes → Holds took new bytes
  pub counted : new.count ≡ old.count
  pub ended : new.ends_line ≡ old.ends_line

-- these bytes come after those so far
pub record Feeds {I : Type 0} (took : I → List ℕ → Type 0) (old : Feeder I) (more : List ℕ)
    (new : Feeder I) : Type 0 where
  pub all : (bytes : List ℕ) → Holds took old bytes → Holds took new (bytes ++ more)
  pub counted : new.count ≡ old.count + length more
  pub ended : (bytes : List ℕ) → old.ends_line ≡ ends_line bytes
      → new.ends_line ≡ ends_line (bytes ++ more)

-- bytes of the open file come, and with `ends` its end
pub record FeedsBytes {I : Type 0} (took : I → List ℕ → Type 0) (old new : Feeder I)
    (given_before given_now : List Reading) (ends : Bool) : Type 0 where
  pub more : List ℕ
  pub feeds : Feeds took old more new
  pub given : given_now ≡ after_bytes given_before more ends

-- a file of this name comes that was read to its end, with the end of its last line
pub record FeedsFile {I : Type 0} (took : I → List ℕ → Type 0) (old new : Feeder I)
    (name : List ℕ) (given_before given_now : List Reading) : Type 0 where
  pub more : List ℕ
  pub feeds : Feeds took old (ended more) new
  pub given :
      given_now ≡ given_before ++ record { name = name; bytes = more; at_end = true } ∷ []

-- files of these names were read to their ends, and these are all bytes so far: their input
pub record HasRead {I : Type 0} (took : I → List ℕ → Type 0) (f : Feeder I)
    (names : List (List ℕ)) (given_before given_now : List Reading) : Type 0 where
  pub readings : List Reading
  pub given : given_now ≡ given_before ++ readings
  pub named : map (λ (r : Reading). r.name) readings ≡ names
  pub ended : AreEnded readings
  pub holds : Holds took f (input_read readings)
  pub counted : f.count ≡ length (input_read readings)

-- a line feed comes, unless the last line has ended
abbrev pub EndsLine : {I : Type 0} → (I → List ℕ → Type 0) → Feeder I → Feeder I → Type 0
EndsLine took old new = Feeds took old (if old.ends_line then [] else 10 ∷ []) new
