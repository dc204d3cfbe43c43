-- How a run ends, and what it writes.
use Rattle.std.specs.Prelude.{ℕ, ◌≡◌, ◌<◌, ◌≤◌, List, [], ◌∷◌, Option, length, false, true}
use Rattle.std.specs.Prelude.{Ok, Err}
use Rattle.std.specs.Io.KnownBytes.{append_known}
use Rattle.mystery_io.specs.Counts.{CountsCalls}
use Rattle.mystery_io.specs.Input.{input_limit}
use Rattle.mystery_io.specs.Prefixes.{AppendsPrefix}
use Rattle.mystery_io.specs.ReadFaults.{FilesSeen, OpensFirst}
use Rattle.mystery_io.specs.Readings.{Reading}
use Rattle.page_rows.specs.Pages.{PageLists, page_said}
use Rattle.view_page.specs.Views.{IsView}
use Rattle.view_run.specs.CommandLines.{is_in_grammar, page_name}
use Rattle.view_run.specs.declared.outcome.Outcome.{Outcome}
use Rattle.view_run.specs.declared.outcome.Outcome.TheVariants.{Done, Memory, Arguments, BadLine}
use Rattle.view_run.specs.declared.outcome.Outcome.TheVariants.{File, Write, Size}

-- what a run saw: its arguments, the files, and what was written to the sink of pages, before and
-- now
pub record Seen : Type 0 where
  pub words : List (List ℕ)
  pub files : FilesSeen
  pub written_before : Option (List ℕ)
  pub written_now : Option (List ℕ)

-- the same, by what the sink tells in its states before and now
abbrev pub run_seen : {S : Type 0} → List (List ℕ) → FilesSeen → (S → Option (List ℕ)) → S → S
    → Seen
run_seen words files written old new = record {
  words = words;
  files = files;
  written_before = written old;
  written_now = written new;
}

-- the arguments are in the grammar, and `open` was called once, with the name of the file of rows
pub record OpensPage (seen : Seen) (reading : Reading) : Type 0 where
  pub called : is_in_grammar seen.words ≡ true
  pub counted : CountsCalls 1 seen.files.opens_before seen.files.opens_now
  pub named : reading.name ≡ page_name seen.words
  pub read : seen.files.readings ≡ reading ∷ []

-- the file of rows was read to its end, and has no more bytes than an input may have
pub record ReadsPage (seen : Seen) (reading : Reading) : Type 0 where
  pub opened : OpensPage seen reading
  pub ended : reading.at_end ≡ true
  pub fits : length reading.bytes ≤ input_limit

-- these bytes say the rows of a page, and the text is that page
abbrev pub IsPageOf : List ℕ → List ℕ → Type 0
IsPageOf rows text = (page : PageLists) × (page_said rows ≡ Ok page) × IsView page text

-- nothing was written
abbrev pub WritesNothing : Seen → Type 0
WritesNothing seen = seen.written_now ≡ seen.written_before

-- a run that ended so has its cause: the arguments, the file and its rows, and what is written
abbrev pub Explains : Outcome → Seen → Type 0
Explains Arguments seen =
    (is_in_grammar seen.words ≡ false) × OpensFirst seen.files [] 0 × WritesNothing seen
Explains Memory seen = (reading : Reading) × OpensPage seen reading × WritesNothing seen
Explains File seen = (reading : Reading) × OpensPage seen reading × WritesNothing seen
Explains Size seen =
    (reading : Reading) × OpensPage seen reading × (input_limit < length reading.bytes)
    × WritesNothing seen
Explains (BadLine line why) seen =
    (reading : Reading) × ReadsPage seen reading
    × (page_said reading.bytes ≡ Err (record { line = line; why = why })) × WritesNothing seen
Explains Done seen =
    (reading : Reading) × ReadsPage seen reading × (text : List ℕ) × IsPageOf reading.bytes text
    × (seen.written_now ≡ append_known seen.written_before text)
Explains Write seen =
    (reading : Reading) × ReadsPage seen reading × (text : List ℕ) × IsPageOf reading.bytes text
    × AppendsPrefix seen.written_before seen.written_now text
