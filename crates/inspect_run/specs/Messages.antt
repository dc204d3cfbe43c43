-- The status of an outcome, and its message.
use Rattle.std.specs.Prelude.{ℕ, ◌++◌, List, [], codes, slice_index_or}
use Rattle.inspect_run.specs.declared.outcome.Outcome.{Outcome}
use Rattle.inspect_run.specs.declared.outcome.Outcome.TheVariants.{Done, Memory, Arguments, File}
use Rattle.inspect_run.specs.declared.outcome.Outcome.TheVariants.{Write, Size}

-- the exit status; 3 is no status of this program, since no line ends a run
abbrev pub status_of : Outcome → ℕ
status_of Done = 0
status_of Memory = 1
status_of Arguments = 2
status_of (File index) = 4
status_of Write = 5
status_of Size = 6

-- the name of the file that a message speaks of, where it speaks of one
abbrev pub message_name : List (List ℕ) → Outcome → List ℕ
message_name words (File index) = slice_index_or words index []
message_name words Done = []
message_name words Memory = []
message_name words Arguments = []
message_name words Write = []
message_name words Size = []

-- what a message says
abbrev pub message_text : Outcome → List ℕ
message_text Done = []
message_text Memory = codes "out of memory\n"
message_text Arguments = codes "usage: mystery inspect FILE...\n"
message_text (File index) = codes ": read failed\n"
message_text Write = codes "write failed\n"
message_text Size = codes "limit: input over 67108864 bytes\n"

-- what is written to standard error: nothing, or a message that ends with a line feed
abbrev pub message_of : List (List ℕ) → Outcome → List ℕ
message_of words outcome = message_name words outcome ++ message_text outcome
