-- The status of a run, and its message.
use Rattle.std.specs.Prelude.{ℕ, ◌++◌, List, [], codes, decimal, slice_index_or, Result, Ok, Err}
use Rattle.std.specs.Option.{option_map_or}
use Rattle.event_lines.specs.Reasons.{why_text}
use Rattle.line_split.specs.declared.reason.Reason.{Reason}
use Rattle.line_split.specs.declared.reason.Reason.TheVariants.{Line, Control, TooLong}
use Rattle.line_split.specs.declared.split_fault.SplitFault.{SplitFault}
use Rattle.line_split.specs.declared.split_fault.SplitFault.TheVariants.{Arguments, Memory, BadLine}
use Rattle.line_split.specs.declared.split_fault.SplitFault.TheVariants.{File, Write}
use Rattle.line_split.specs.CommandLines.{Call, call_of}

-- how a run ended: it is done, or it has a fault
abbrev pub Outcome : Type 0
Outcome = Result (Unit {0}) SplitFault

-- the exit status
abbrev pub status_of : Outcome → ℕ
status_of (Ok done) = 0
status_of (Err Memory) = 1
status_of (Err Arguments) = 2
status_of (Err (BadLine file line why)) = 3
status_of (Err (File index)) = 4
status_of (Err Write) = 5

-- the text in which it is printed why a line is bad
abbrev pub reason_text : Reason → List ℕ
reason_text (Line why) = why_text why
reason_text Control = codes "control line"
reason_text TooLong = codes "line over 67108864 bytes"

-- the name of the file argument with this index, from 0
abbrev pub file_name : List (List ℕ) → ℕ → List ℕ
file_name words index =
    option_map_or (λ (call : Call). slice_index_or call.files index []) (call_of words) []

-- the name of the file that a message speaks of, where it speaks of one
abbrev pub message_name : List (List ℕ) → Outcome → List ℕ
message_name words (Err (BadLine file line why)) = file_name words file
message_name words (Err (File index)) = file_name words index
message_name words (Err Memory) = []
message_name words (Err Arguments) = []
message_name words (Err Write) = []
message_name words (Ok done) = []

-- what a message says
abbrev pub message_text : Outcome → List ℕ
message_text (Ok done) = []
message_text (Err Memory) = codes "out of memory\n"
message_text (Err Arguments) =
    codes "usage: mystery split [--grace MICROS] N SEED PREFIX FILE...\n"
message_text (Err (BadLine file line why)) =
    codes ": line " ++ decimal line ++ codes ": " ++ reason_text why ++ codes "\n"
message_text (Err (File index)) = codes ": read failed\n"
message_text (Err Write) = codes "write failed\n"

-- what is written to standard error: nothing, or a message that ends with a line feed
abbrev pub message_of : List (List ℕ) → Outcome → List ℕ
message_of words outcome = message_name words outcome ++ message_text outcome
