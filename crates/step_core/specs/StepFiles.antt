-- What a file of steps says: its start and its steps, or the first line outside the form.
use Rattle.std.specs.Prelude.{ℕ, ◌≡◌, List, [], ◌∷◌, map, ⊤, Some, None, Result, Ok, Err}
use Rattle.std.specs.Option.{option_map_or}
use Rattle.std.specs.Result.{result_map_both}
use Rattle.event_lines.specs.Cut.{input_lines}
use Rattle.event_lines.specs.InputLines.{numbered_lines, all_or_first_error}
use Rattle.word_rows.specs.declared.events.StepEvent.{StepEvent}
use Rattle.step_core.specs.declared.step_file.StepFile.{StepFile}
use Rattle.step_core.specs.declared.step_line_error.StepLineError.{StepLineError}
use Rattle.step_core.specs.declared.step_line_error.StepLineError.TheVariants.{Memory, Bad}
use Rattle.step_core.specs.StepLines.{start_said, step_said}

-- the steps of numbered lines, or the number of the first line that says none
abbrev pub steps_of_lines : List (ℕ × List ℕ) → Result (List StepEvent) ℕ
steps_of_lines lines =
    all_or_first_error (map (λ line. option_map_or Ok (step_said line.1) (Err line.0)) lines)

-- the file of numbered lines: the first says the start, and each other one a step; or the number of
-- the first that does not
abbrev pub file_of_lines : List (ℕ × List ℕ) → Result StepFile ℕ
file_of_lines [] = Ok (record { start = None; events = [] })
file_of_lines (first ∷ others) =
    option_map_or (λ start. result_map_both (λ events. record { start = Some start; events = events })
    (λ n. n) (steps_of_lines others)) (start_said first.1) (Err first.0)

-- the file of steps that bytes say, or the number of the first line outside the form; lines that
-- are blank are counted, and otherwise ignored
abbrev pub file_said : List ℕ → Result StepFile ℕ
file_said bytes = file_of_lines (numbered_lines 1 (input_lines bytes))

-- why a file of steps was not read: out of memory, or its first line outside the form
abbrev pub IsStepLineError : {X : Type 0} → Result X ℕ → StepLineError → Type 0
IsStepLineError said Memory = ⊤
IsStepLineError said (Bad line) = said ≡ Err line
