-- The status of a run, and its message.
use Rattle.std.specs.Prelude.{ℕ, ◌++◌, List, [], codes, slice_index_or, Result, Ok, Err}
use Rattle.line_clean.specs.declared.clean_fault.CleanFault.{CleanFault}
use Rattle.line_clean.specs.declared.clean_fault.CleanFault.TheVariants.{Arguments, Memory, File}
use Rattle.line_clean.specs.declared.clean_fault.CleanFault.TheVariants.{Write}

-- how a run ended: it is done, or it has a fault
abbrev pub Outcome : Type 0
Outcome = Result (Unit {0}) CleanFault

-- the exit status; 3 is no status of this program, since no line ends a run
abbrev pub status_of : Outcome → ℕ
status_of (Ok done) = 0
status_of (Err Memory) = 1
status_of (Err Arguments) = 2
status_of (Err (File index)) = 4
status_of (Err Write) = 5

-- the name of the file that a message speaks of, where it speaks of one
abbrev pub message_name : List (List ℕ) → Outcome → List ℕ
message_name words (Err (File index)) = slice_index_or words index []
message_name words (Err Memory) = []
message_name words (Err Arguments) = []
message_name words (Err Write) = []
message_name words (Ok done) = []

-- what a message says
abbrev pub message_text : Outcome → List ℕ
message_text (Ok done) = []
message_text (Err Memory) = codes "out of memory\n"
message_text (Err Arguments) = codes "usage: mystery clean FILE...\n"
message_text (Err (File index)) = codes ": read failed\n"
message_text (Err Write) = codes "write failed\n"

-- what is written to standard error: nothing, or a message that ends with a line feed
abbrev pub message_of : List (List ℕ) → Outcome → List ℕ
message_of words outcome = message_name words outcome ++ message_text outcome
