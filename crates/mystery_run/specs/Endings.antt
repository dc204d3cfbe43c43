-- How a run ends, and the text that it has then.
use Rattle.std.specs.Prelude.{ℕ, ◌≡◌, ◌⊎◌, List, [], ⊤}
use Rattle.std.specs.Prelude.{Option, Some, None, Ok, Err}
use Rattle.std.specs.Io.KnownBytes.{append_known}
use Rattle.digest_merging.specs.declared.digest_limit.DigestLimit.{DigestLimit}
use Rattle.mystery_io.specs.Prefixes.{AppendsPrefix}
use Rattle.mystery_run.specs.declared.outcome.Outcome.{Outcome}
use Rattle.mystery_run.specs.declared.outcome.Outcome.TheVariants.{Done, Memory, Arguments, BadLine}
use Rattle.mystery_run.specs.declared.outcome.Outcome.TheVariants.{File, Write, Size, Over}
use Rattle.mystery_run.specs.declared.outcome.Outcome.TheVariants.{OverGiven}
use Rattle.mystery_run.specs.CommandLines.{Call, call_of}
use Rattle.mystery_run.specs.Readings.{FitsSize, PassesSize}
use Rattle.mystery_run.specs.Texts.{IsGivenOver, IsTextOf, IsTextUpTo, IsTextOfParts}
use Rattle.mystery_run.specs.Works.{Work, work_said}

-- the preface and the input are within the limit and have no bad line, and P holds of the work
abbrev pub OfWork : Call → List ℕ → List ℕ → (Work → Type 0) → Type 0
OfWork call preface input P =
    FitsSize preface input
    × ((work : Work) × (work_said call preface input ≡ Ok work) × P work)

-- a call over this preface and this input may end so, with this text
abbrev pub CallEnds : Call → List ℕ → List ℕ → Outcome → List ℕ → Type 0
CallEnds call preface input Arguments text = ⊥
CallEnds call preface input (File index) text = text ≡ []
CallEnds call preface input Size text = PassesSize preface input × (text ≡ [])
CallEnds call preface input (BadLine line why) text =
    FitsSize preface input
    × (work_said call preface input ≡ Err (record { line = line; why = why }))
    × (text ≡ [])
CallEnds call preface input Done text =
    OfWork call preface input (λ work. IsTextOf call.workers work text)
CallEnds call preface input (Over limit) text =
    OfWork call preface input (λ work. IsTextUpTo call.workers work limit text)
CallEnds call preface input (OverGiven limit) text =
    OfWork call preface input (λ work. IsGivenOver work limit) × (text ≡ [])
CallEnds call preface input Write text =
    OfWork call preface input (λ work. IsTextOfParts call.workers work text)
CallEnds call preface input Memory text =
    (text ≡ [])
    ⊎ OfWork call preface input (λ work. IsTextOfParts call.workers work text)

-- the same of a call that may be none: there were arguments outside the grammar
abbrev pub CallEndsAt : Option Call → List ℕ → List ℕ → Outcome → List ℕ → Type 0
CallEndsAt None preface input outcome text = (outcome ≡ Arguments) × (text ≡ [])
CallEndsAt (Some call) preface input outcome text = CallEnds call preface input outcome text

-- a run with these arguments over this preface and this input may end so, with this text; either is
-- empty where the arguments name none
abbrev pub Ends : List (List ℕ) → List ℕ → List ℕ → Outcome → List ℕ → Type 0
Ends words preface input outcome text =
    CallEndsAt (call_of words) preface input outcome text

-- what was read passes a limit before the first job: the preface or the input that of size, or the
-- digest that is given one of its own
abbrev pub PassesFirst : List (List ℕ) → List ℕ → List ℕ → Type 0
PassesFirst words preface input =
    PassesSize preface input ⊎ ((limit : DigestLimit) × Ends words preface input (OverGiven limit) [])

-- what is written of the text by a run that ends so: all of it, a prefix, or nothing
abbrev pub Writes : Outcome → Option (List ℕ) → Option (List ℕ) → List ℕ → Type 0
Writes Done before now text = now ≡ append_known before text
Writes (Over limit) before now text = now ≡ append_known before text
Writes Memory before now text = AppendsPrefix before now text
Writes Write before now text = AppendsPrefix before now text
Writes Arguments before now text = now ≡ before
Writes (BadLine line why) before now text = now ≡ before
Writes (File index) before now text = now ≡ before
Writes Size before now text = now ≡ before
Writes (OverGiven limit) before now text = now ≡ before

-- arguments, a preface and an input alone decide this ending: no memory, file or sink failed
abbrev pub IsDecided : Outcome → Type 0
IsDecided Done = ⊤
IsDecided (Over limit) = ⊤
IsDecided Arguments = ⊤
IsDecided (BadLine line why) = ⊤
IsDecided Size = ⊤
IsDecided (OverGiven limit) = ⊤
IsDecided Memory = ⊥
IsDecided (File index) = ⊥
IsDecided Write = ⊥
