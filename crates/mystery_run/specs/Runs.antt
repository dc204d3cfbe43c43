-- What a run tells by its status and by what it wrote.
use Rattle.std.specs.Prelude.{ℕ, ◌≡◌, List, drop, length, take, true, false, Option}
use Rattle.mystery_io.specs.Input.{input_read}
use Rattle.mystery_io.specs.ReadFaults.{FilesSeen, OpensFirst}
use Rattle.mystery_io.specs.Readings.{AreEnded}
use Rattle.mystery_run.specs.declared.outcome.Outcome.{Outcome}
use Rattle.mystery_run.specs.declared.outcome.Outcome.TheVariants.{Done, Memory, Arguments, BadLine}
use Rattle.mystery_run.specs.declared.outcome.Outcome.TheVariants.{File, Write, Size, Over}
use Rattle.mystery_run.specs.declared.outcome.Outcome.TheVariants.{OverGiven}
use Rattle.mystery_run.specs.CommandLines.{all_files_of, files_of, is_in_grammar, preface_of}
use Rattle.mystery_run.specs.Endings.{Ends, Writes}
use Rattle.mystery_run.specs.Readings.{FailsAt, PassesAt}

-- what a run saw: its arguments, the files, and what was written to the sink of texts, before and
-- now
pub record Seen : Type 0 where
  pub words : List (List ℕ)
  pub files : FilesSeen
  pub written_before : Option (List ℕ)
  pub written_now : Option (List ℕ)

-- the same, by what the sink tells in its states before and now
abbrev pub run_seen : {S : Type 0} → List (List ℕ) → FilesSeen → (S → Option (List ℕ)) → S → S
    → Seen
run_seen words files written old new =
    record { words = words; files = files; written_before = written old; written_now = written new }

-- P holds of the preface and the input that were read: what the reads gave of the first files, as
-- many as the arguments name for a preface, and what they gave of the rest
abbrev pub OfInputs : FilesSeen → List (List ℕ) → (List ℕ → List ℕ → Type 0) → Type 0
OfInputs seen words P =
    P (input_read (take (length (preface_of words)) seen.readings))
    (input_read (drop (length (preface_of words)) seen.readings))

-- the run may end so over what it read, with a text of which that was written which should be
abbrev pub EndsAs : Outcome → Seen → Type 0
EndsAs outcome seen =
    OfInputs seen.files seen.words (λ preface input. (text : List ℕ)
    × Ends seen.words preface input outcome text
    × Writes outcome seen.written_before seen.written_now text)

-- the arguments are in the grammar, and each of their files was opened, one after another, and read to
-- its end
pub record ReadsAll (seen : Seen) : Type 0 where
  pub called : is_in_grammar seen.words ≡ true
  pub opened :
      OpensFirst seen.files (all_files_of seen.words) (length (all_files_of seen.words))
  pub ended : AreEnded seen.files.readings

-- which of the files that the arguments name were opened by a run that ends so, and how far they
-- were read
abbrev pub Reads : Outcome → Seen → Type 0
Reads Arguments seen =
    (is_in_grammar seen.words ≡ false) × OpensFirst seen.files (all_files_of seen.words) 0
Reads (File index) seen =
    (is_in_grammar seen.words ≡ true)
    × FailsAt seen.files (preface_of seen.words) (files_of seen.words) index
Reads Size seen =
    (is_in_grammar seen.words ≡ true)
    × ((index : ℕ) × PassesAt seen.files (preface_of seen.words) (files_of seen.words) index)
Reads (BadLine line why) seen = ReadsAll seen
Reads Done seen = ReadsAll seen
Reads (Over limit) seen = ReadsAll seen
Reads (OverGiven limit) seen = ReadsAll seen
Reads Write seen = ReadsAll seen
Reads Memory seen =
    (is_in_grammar seen.words ≡ true)
    × ((count : ℕ) × OpensFirst seen.files (all_files_of seen.words) count)

-- a run that ended so has its cause, and wrote what it should
pub record Explains (outcome : Outcome) (seen : Seen) : Type 0 where
  pub reads : Reads outcome seen
  pub ends : EndsAs outcome seen
