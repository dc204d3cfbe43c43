-- How a run ends, and what it writes.
use Rattle.std.specs.Prelude.{ℕ, ◌≡◌, ◌+◌, ◌<◌, ◌≤◌, ◌++◌, List, [], Option, length, map, take}
use Rattle.std.specs.Prelude.{false, true}
use Rattle.std.specs.Io.KnownBytes.{append_known}
use Rattle.trace_types.specs.declared.event.Event.{Event}
use Rattle.trace_types.specs.Batch.{traces_of}
use Rattle.line_clean.specs.Lines.{lines_read}
use Rattle.line_quality.specs.EventsRead.{events_read, without_line}
use Rattle.mystery_io.specs.Input.{input_limit}
use Rattle.mystery_io.specs.Prefixes.{AppendsPrefix}
use Rattle.mystery_io.specs.ReadFaults.{FilesSeen, OpensFirst}
use Rattle.mystery_io.specs.Readings.{AreEnded, Reading}
use Rattle.inspect_run.specs.CommandLines.{is_in_grammar}
use Rattle.inspect_run.specs.GraceRows.{AreGraceRows}
use Rattle.inspect_run.specs.Judging.{size_given}
use Rattle.inspect_run.specs.LineRows.{line_rows}
use Rattle.inspect_run.specs.NameRows.{AreNameRows}
use Rattle.inspect_run.specs.TraceRows.{AreTraceRows}
use Rattle.inspect_run.specs.declared.outcome.Outcome.{Outcome}
use Rattle.inspect_run.specs.declared.outcome.Outcome.TheVariants.{Done, Memory, Arguments, File}
use Rattle.inspect_run.specs.declared.outcome.Outcome.TheVariants.{Write, Size}

-- what a run saw: its arguments, the files, and what was written to the sink of rows, before and now
pub record Seen : Type 0 where
  pub words : List (List ℕ)
  pub files : FilesSeen
  pub written_before : Option (List ℕ)
  pub written_now : Option (List ℕ)

-- the same, by what the sink tells in its states before and now
abbrev pub run_seen : {S : Type 0} → List (List ℕ) → FilesSeen → (S → Option (List ℕ)) → S → S
    → Seen
run_seen words files written old new = record {
  words = words;
  files = files;
  written_before = written old;
  written_now = written new;
}

-- exactly the first of these names were opened, in order, up to the one at this index; the files
-- before it were read to their ends, and have no more bytes together than an input may have
pub record ReadsUpTo (files : FilesSeen) (names : List (List ℕ)) (index : ℕ) : Type 0 where
  pub opened : OpensFirst files names (index + 1)
  pub fits : size_given (take index files.readings) ≤ input_limit

-- the files of these names were opened, in order, each was read to its end, and together they have
-- no more bytes than an input may have
pub record ReadsAll (files : FilesSeen) (names : List (List ℕ)) : Type 0 where
  pub opened : OpensFirst files names (length names)
  pub ended : AreEnded files.readings
  pub fits : size_given files.readings ≤ input_limit

-- why the files of a run were not read, where it ended so
abbrev pub StopsReading : Outcome → FilesSeen → List (List ℕ) → Type 0
StopsReading Memory files names = (count : ℕ) × OpensFirst files names count
StopsReading (File index) files names = ReadsUpTo files names index
StopsReading Size files names =
    ((index : ℕ) × ReadsUpTo files names index) × (input_limit < size_given files.readings)
StopsReading Arguments files names = ⊥
StopsReading Done files names = ⊥
StopsReading Write files names = ⊥

-- the arguments are in the grammar, reading ended so, and nothing was written
pub record Stops (outcome : Outcome) (seen : Seen) : Type 0 where
  pub called : is_in_grammar seen.words ≡ true
  pub reading : StopsReading outcome seen.files seen.words
  pub written : seen.written_now ≡ seen.written_before

-- the text tells the quality of the files with these names that were read: the rows on their lines,
-- those on the traces of their events, those on the names of segments of these, and those on
-- relations that few of them refute, whatever numbers their lines have
pub record IsQuality (names : List (List ℕ)) (readings : List Reading) (text : List ℕ)
    : Type 0 where
  pub events : List Event
  pub read : map without_line events ≡ events_read (lines_read readings)
  pub rows : List ℕ
  pub told : AreTraceRows (traces_of events) rows
  pub on_names : List ℕ
  pub names_told : AreNameRows (traces_of events) on_names
  pub on_graces : List ℕ
  pub graces_told : AreGraceRows (traces_of events) on_graces
  pub printed : text ≡ line_rows names readings ++ rows ++ on_names ++ on_graces

-- the arguments are in the grammar, all files were read, and the text tells their quality
pub record HasText (seen : Seen) (text : List ℕ) : Type 0 where
  pub called : is_in_grammar seen.words ≡ true
  pub read : ReadsAll seen.files seen.words
  pub told : IsQuality seen.words seen.files.readings text

-- a run that ended so has its cause: the arguments, the files and their quality, and what is written
abbrev pub Explains : Outcome → Seen → Type 0
Explains Arguments seen =
    (is_in_grammar seen.words ≡ false) × OpensFirst seen.files [] 0
    × (seen.written_now ≡ seen.written_before)
Explains Memory seen = Stops Memory seen
Explains (File index) seen = Stops (File index) seen
Explains Size seen = Stops Size seen
Explains Done seen =
    (text : List ℕ) × HasText seen text
    × (seen.written_now ≡ append_known seen.written_before text)
Explains Write seen =
    (text : List ℕ) × HasText seen text
    × AppendsPrefix seen.written_before seen.written_now text
