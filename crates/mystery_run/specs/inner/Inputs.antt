-- What was read of the files of an input.
use Rattle.std.specs.Prelude.{ℕ, ◌≡◌, ◌≤◌, ◌++◌, List, [], length, Result, Ok, Err, ⊤}
use Rattle.event_lines.specs.declared.line.Line.{Line}
use Rattle.event_lines.specs.InputLines.{LineFault, lines_said}
use Rattle.event_lines.specs.LinesTaken.{LinesTaken, said_with}
use Rattle.mystery_io.specs.Input.{input_limit}
use Rattle.mystery_run.specs.declared.input.Input.{Input}
use Rattle.mystery_run.specs.declared.input.Input.TheVariants.{Bytes, Lines, Bad}
use Rattle.mystery_run.specs.declared.input_form.InputForm.{InputForm}
use Rattle.mystery_run.specs.declared.input_form.InputForm.TheVariants as forms
use Rattle.mystery_run.specs.CommandLines.{Action, session, view, what_if, tail, why, verify}
use Rattle.mystery_run.specs.CommandLines.{evidence, drill, replay}

-- what an action reads its input as
abbrev pub form_of_action : Action → InputForm
form_of_action (session files) = forms.Lines
form_of_action (view v files) = forms.Lines
form_of_action (what_if change files) = forms.Lines
form_of_action (tail files) = forms.Lines
form_of_action (why files) = forms.Lines
form_of_action (verify file files) = forms.Lines
form_of_action (evidence choice files) = forms.Lines
form_of_action (drill number traces) = forms.Lines
form_of_action (replay file) = forms.Steps

-- a reader of lines took these bytes: with any later bytes it says what both say
abbrev pub HasTaken : LinesTaken → List ℕ → Type 0
HasTaken taken bytes =
    (later : List ℕ) → said_with taken later ≡ lines_said (bytes ++ later)

-- what the lines of an input say that was read
abbrev pub lines_said_by : Input → Result (List Line) LineFault
lines_said_by (Bytes bytes) = lines_said bytes.items
lines_said_by (Lines lines) = Ok lines
lines_said_by (Bad line reason) = Err (record { line = line; why = reason })

-- the bytes that are kept of it
abbrev pub bytes_kept : Input → List ℕ
bytes_kept (Bytes bytes) = bytes.items
bytes_kept (Lines lines) = []
bytes_kept (Bad line reason) = []

-- these are its bytes: they say its lines, or they are kept where they are not read as lines
abbrev pub IsInputOf : InputForm → Input → List ℕ → Type 0
IsInputOf forms.Lines input bytes = lines_said_by input ≡ lines_said bytes
IsInputOf forms.Steps input bytes = bytes_kept input ≡ bytes

-- it is of bytes within the limit of size
abbrev pub IsWithinLimit : Input → Type 0
IsWithinLimit (Bytes bytes) = length bytes.items ≤ input_limit
IsWithinLimit (Lines lines) =
    (bytes : List ℕ) × (lines_said bytes ≡ Ok lines) × (length bytes ≤ input_limit)
IsWithinLimit (Bad line reason) = ⊤

-- an input of these bytes was read in this form, within the limit
pub record IsReadAs (form : InputForm) (input : Input) (bytes : List ℕ) : Type 0 where
  pub is : IsInputOf form input bytes
  pub fits : length bytes ≤ input_limit
  pub within : IsWithinLimit input
