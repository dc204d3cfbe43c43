-- Which of some bytes were written, where the sink tells it.
use Rattle.std.specs.Prelude.{ℕ, ◌≡◌, ◌⊎◌, List, take, Option}
use Rattle.std.specs.Io.KnownBytes.{append_known}
use Rattle.mystery_io.specs.Counts.{counted_up}

-- a prefix of the bytes was appended: the first `count` of them
pub record AppendsPrefix (old new : Option (List ℕ)) (bytes : List ℕ) : Type 0 where
  pub count : ℕ
  pub appended : new ≡ append_known old (take count bytes)

-- all the bytes were appended and no fault was counted, or a prefix of them and one fault more, by
-- the meanings of `Sink` and its states before and now
abbrev pub Sends : {S : Type 0} → (S → Option (List ℕ)) → (S → ℕ) → S → S → List ℕ → Type 0
Sends written faults old new bytes =
    ((written new ≡ append_known (written old) bytes) × (faults new ≡ faults old))
    ⊎ (AppendsPrefix (written old) (written new) bytes × (faults new ≡ counted_up (faults old)))
