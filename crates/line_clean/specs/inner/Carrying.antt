-- A line that has not ended, as it is carried from one piece of a file to the next.
use Rattle.std.specs.Prelude.{ℕ, ◌≡◌, ◌≤◌, ◌++◌, List, [], ◌∷◌, drop, length, if◌then◌else◌}
use Rattle.event_lines.specs.Cut.{input_lines}
use Rattle.mystery_io.specs.Input.{input_limit}
use Rattle.line_clean.specs.declared.carry.Carry.{Carry}
use Rattle.line_clean.specs.Lines.{clean_text}

-- what is carried is one line, within the limit
pub record IsCarry (carry : Carry) : Type 0 where
  pub one : input_lines carry.rest.items ≡ carry.rest.items ∷ []
  pub short : length carry.rest.items ≤ input_limit

-- what will be printed of the line that is carried and of these bytes after it: of a line that is
-- too long already nothing, and then what is printed of the lines after it
abbrev pub text_with : Carry → List ℕ → List ℕ
text_with carry later =
    if carry.is_long then clean_text (drop 1 (input_lines later))
    else clean_text (input_lines (carry.rest.items ++ later))

-- these bytes came: what was printed, and what will be with any later bytes, is what was printed
-- before, and would have been with both
abbrev pub Passes : List ℕ → Carry → List ℕ → List ℕ → Carry → Type 0
Passes text old bytes more new =
    (later : List ℕ) → text ++ text_with old (bytes ++ later) ≡ more ++ text_with new later
