-- How a run goes on from an input that was read and is within the limit.
use Rattle.std.specs.Prelude.{ℕ, ◌≡◌, ◌⊎◌, List, [], Option, Result, Ok, Err}
use Rattle.mystery_run.specs.declared.outcome.Outcome.{Outcome}
use Rattle.mystery_run.specs.declared.outcome.Outcome.TheVariants.{Done, Memory, Arguments, BadLine}
use Rattle.mystery_run.specs.declared.outcome.Outcome.TheVariants.{File, Write, Size, Over}
use Rattle.mystery_run.specs.declared.outcome.Outcome.TheVariants.{OverGiven}
use Rattle.mystery_run.specs.Endings.{Writes}
use Rattle.mystery_run.specs.Texts.{IsGivenOver, IsTextOf, IsTextUpTo, IsTextOfParts}
use Rattle.mystery_run.specs.Works.{BadInput, Work}

-- a work of so many workers may end so, with this text
abbrev pub WorkEnds : ℕ → Work → Outcome → List ℕ → Type 0
WorkEnds workers work Done text = IsTextOf workers work text
WorkEnds workers work (Over limit) text = IsTextUpTo workers work limit text
WorkEnds workers work (OverGiven limit) text = IsGivenOver work limit × (text ≡ [])
WorkEnds workers work Memory text = (text ≡ []) ⊎ IsTextOfParts workers work text
WorkEnds workers work Write text = IsTextOfParts workers work text
WorkEnds workers work Arguments text = ⊥
WorkEnds workers work (BadLine line why) text = ⊥
WorkEnds workers work (File index) text = ⊥
WorkEnds workers work Size text = ⊥

-- the same of what an input said: its work, or its first bad line
abbrev pub SaidEnds : ℕ → Result Work BadInput → Outcome → List ℕ → Type 0
SaidEnds workers (Ok work) outcome text = WorkEnds workers work outcome text
SaidEnds workers (Err bad) outcome text =
    ((outcome ≡ BadLine bad.line bad.why) ⊎ (outcome ≡ Memory)) × (text ≡ [])

-- a run ended so over an input that said this, and wrote what it should
abbrev pub InputEnds : ℕ → Result Work BadInput → Outcome → Option (List ℕ) → Option (List ℕ)
    → Type 0
InputEnds workers said outcome before now =
    (text : List ℕ) × SaidEnds workers said outcome text × Writes outcome before now text
