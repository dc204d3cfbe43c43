-- Files that give what they hold.
use Rattle.std.specs.Prelude.{ℕ, ◌≡◌, Bool, true, List, [], ◌∷◌, ◌++◌, All, map}
use Rattle.mystery_io.specs.Input.{input_of, input_read}
use Rattle.mystery_io.specs.Readings.{AreEnded, Reading}

-- a reading gave the first bytes of the content of its name, and all of it where it came to the end
pub record IsHonest (contents : List ℕ → List ℕ) (r : Reading) : Type 0 where
  pub rest : List ℕ
  pub split : contents r.name ≡ r.bytes ++ rest
  pub whole : r.at_end ≡ true → rest ≡ []

-- each reading did
abbrev pub AreHonest : (List ℕ → List ℕ) → List Reading → Type 0
AreHonest contents readings = All (IsHonest contents) readings

-- files that hold these contents gave what they hold, and where one is open, this is left of the
-- content that the last reading gives
pub record GivesContents (contents : List ℕ → List ℕ) (given : List Reading) (left : List ℕ)
    (is_open : Bool) : Type 0 where
  pub each : AreHonest contents given
  pub ahead : is_open ≡ true → (first : List Reading) × (last : Reading)
      × (given ≡ first ++ last ∷ []) × (contents last.name ≡ last.bytes ++ left)
      × (last.at_end ≡ true → left ≡ [])

-- where each reading gave the content of its name and came to the end, the input that was read is
-- the input of these contents
abbrev pub HonestFilesGiveContents : Type 0
HonestFilesGiveContents =
    (contents : List ℕ → List ℕ) (readings : List Reading) → AreHonest contents readings
    → AreEnded readings
    → input_read readings ≡ input_of contents (map (λ (r : Reading). r.name) readings)
