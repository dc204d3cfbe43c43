-- What a run tells by how it ended, by what it read and by what it wrote.
use Rattle.std.specs.Prelude.{ℕ, ◌≡◌, ◌+◌, List, [], length, true, false, Option, Ok, Err}
use Rattle.std.specs.Io.KnownBytes.{append_known}
use Rattle.mystery_io.specs.Prefixes.{AppendsPrefix}
use Rattle.mystery_io.specs.ReadFaults.{FilesSeen, OpensFirst}
use Rattle.mystery_io.specs.Readings.{AreEnded}
use Rattle.line_clean.specs.declared.clean_fault.CleanFault.TheVariants.{Arguments, Memory, File}
use Rattle.line_clean.specs.declared.clean_fault.CleanFault.TheVariants.{Write}
use Rattle.line_clean.specs.CommandLines.{is_in_grammar}
use Rattle.line_clean.specs.Lines.{clean_text, lines_read}
use Rattle.line_clean.specs.Messages.{Outcome}

-- what a run saw: its arguments, the files, and what was written, before and now
pub record Seen : Type 0 where
  pub words : List (List ℕ)
  pub files : FilesSeen
  pub written_before : Option (List ℕ)
  pub written_now : Option (List ℕ)

-- the same, by what the sink tells in its states before and now
abbrev pub run_seen : {S : Type 0} → List (List ℕ) → FilesSeen → (S → Option (List ℕ)) → S → S
    → Seen
run_seen words files written old new = record {
  words = words;
  files = files;
  written_before = written old;
  written_now = written new;
}

-- the arguments are files, each was opened and read to its end, and exactly the good lines of all
-- that were read were written, in their order
pub record WritesAll (seen : Seen) : Type 0 where
  pub called : is_in_grammar seen.words ≡ true
  pub opened : OpensFirst seen.files seen.words (length seen.words)
  pub ended : AreEnded seen.files.readings
  pub written : seen.written_now
      ≡ append_known seen.written_before (clean_text (lines_read seen.files.readings))

-- the arguments are files, the first so many were opened, all but the last of these were read to
-- their ends, and a prefix of the good lines of what was read was written
pub record WritesFirst (seen : Seen) (count : ℕ) : Type 0 where
  pub called : is_in_grammar seen.words ≡ true
  pub opened : OpensFirst seen.files seen.words count
  pub prefix : AppendsPrefix seen.written_before seen.written_now
      (clean_text (lines_read seen.files.readings))

-- how a run that ended so read and wrote
abbrev pub Explains : Outcome → Seen → Type 0
Explains (Ok done) seen = WritesAll seen
Explains (Err (File index)) seen = WritesFirst seen (index + 1)
Explains (Err Write) seen = (count : ℕ) × WritesFirst seen count
Explains (Err Memory) seen = (count : ℕ) × WritesFirst seen count
Explains (Err Arguments) seen =
    (is_in_grammar seen.words ≡ false) × OpensFirst seen.files [] 0
    × (seen.written_now ≡ seen.written_before)
