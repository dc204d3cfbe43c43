-- What an input says: its lines, or its first bad line.
use Rattle.std.specs.Prelude.{ℕ, ◌≡◌, List, [], ◌∷◌, ◌++◌, map, filter, not, ⊤}
use Rattle.std.specs.Prelude.{Result, Ok, Err}
use Rattle.std.specs.List.{enumerate_from}
use Rattle.std.specs.Result.{result_map_both}
use Rattle.event_lines.specs.declared.why.Why.{Why}
use Rattle.event_lines.specs.declared.line.Line.{Line}
use Rattle.event_lines.specs.declared.line_error.LineError.{LineError}
use Rattle.event_lines.specs.declared.line_error.LineError.TheVariants.{Memory, Bad}
use Rattle.event_lines.specs.Cut.{input_lines, is_blank_line}
use Rattle.event_lines.specs.LineResults.{line_result}

-- a bad line: its number, from 1 over the whole input, and the first reason that holds of it
pub record LineFault : Type 0 where
  pub line : ℕ
  pub why : Why

-- the lines that are not blank, each with its number, from n on; blank lines are counted
abbrev pub numbered_lines : ℕ → List (List ℕ) → List (ℕ × List ℕ)
numbered_lines n lines = filter (λ line. not (is_blank_line line.1)) (enumerate_from n lines)

-- what a numbered line says, or the bad line that it is
abbrev pub numbered_result : ℕ × List ℕ → Result Line LineFault
numbered_result line =
    result_map_both (λ good. good) (λ why. record { line = line.0; why = why })
    (line_result line.0 line.1)

-- all values, in order, or the first error
abbrev pub all_or_first_error : {X E : Type 0} → List (Result X E) → Result (List X) E
all_or_first_error [] = Ok []
all_or_first_error (Ok x ∷ results) =
    result_map_both (λ xs. x ∷ xs) (λ e. e) (all_or_first_error results)
all_or_first_error (Err e ∷ results) = Err e

-- what lines say that are numbered from n on
abbrev pub lines_said_from : ℕ → List (List ℕ) → Result (List Line) LineFault
lines_said_from n lines = all_or_first_error (map numbered_result (numbered_lines n lines))

-- what the first part of an input says and then what the second says, or the first bad line
abbrev pub both_said : Result (List Line) LineFault → Result (List Line) LineFault
    → Result (List Line) LineFault
both_said (Ok lines) (Ok more) = Ok (lines ++ more)
both_said (Ok lines) (Err fault) = Err fault
both_said (Err fault) more = Err fault

-- what the bytes of an input say: its lines, or the first bad one
abbrev pub lines_said : List ℕ → Result (List Line) LineFault
lines_said bytes = lines_said_from 1 (input_lines bytes)

-- why an input was not read: out of memory, or its first bad line
abbrev pub IsLineError : Result (List Line) LineFault → LineError → Type 0
IsLineError said Memory = ⊤
IsLineError said (Bad line why) = said ≡ Err (record { line = line; why = why })
