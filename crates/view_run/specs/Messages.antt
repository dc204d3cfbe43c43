-- The status of an outcome, and its message.
use Rattle.std.specs.Prelude.{ℕ, ◌++◌, List, [], codes, decimal}
use Rattle.page_rows.specs.declared.why.Why.{Why}
use Rattle.page_rows.specs.declared.why.Why.TheVariants.{NotUtf8, NoRow, NoNumber, Misplaced}
use Rattle.page_rows.specs.declared.why.Why.TheVariants.{Unfinished}
use Rattle.view_run.specs.CommandLines.{page_name}
use Rattle.view_run.specs.declared.outcome.Outcome.{Outcome}
use Rattle.view_run.specs.declared.outcome.Outcome.TheVariants.{Done, Memory, Arguments, BadLine}
use Rattle.view_run.specs.declared.outcome.Outcome.TheVariants.{File, Write, Size}

-- the exit status
abbrev pub status_of : Outcome → ℕ
status_of Done = 0
status_of Memory = 1
status_of Arguments = 2
status_of (BadLine line why) = 3
status_of File = 4
status_of Write = 5
status_of Size = 6

-- the text in which it is printed why a line is bad
abbrev pub why_text : Why → List ℕ
why_text NotUtf8 = codes "not UTF-8"
why_text NoRow = codes "no row of a page"
why_text NoNumber = codes "a field is no number"
why_text Misplaced = codes "out of place"
why_text Unfinished = codes "the page ends before its last part"

-- the name of the file that a message speaks of, where it speaks of one
abbrev pub message_name : List (List ℕ) → Outcome → List ℕ
message_name words File = page_name words
message_name words Done = []
message_name words Memory = []
message_name words Arguments = []
message_name words (BadLine line why) = []
message_name words Write = []
message_name words Size = []

-- what a message says; lines are counted from 1
abbrev pub message_text : Outcome → List ℕ
message_text Done = []
message_text Memory = codes "out of memory\n"
message_text Arguments = codes "usage: mystery view [PAGE]\n"
message_text (BadLine line why) =
    codes "line " ++ decimal line ++ codes ": bad row: " ++ why_text why ++ codes "\n"
message_text File = codes ": read failed\n"
message_text Write = codes "write failed\n"
message_text Size = codes "limit: input over 67108864 bytes\n"

-- what is written to standard error: nothing, or a message that ends with a line feed
abbrev pub message_of : List (List ℕ) → Outcome → List ℕ
message_of words outcome = message_name words outcome ++ message_text outcome
