-- Where lines of bytes begin and end.
use Rattle.std.specs.Prelude.{ℕ, ◌≡◌, ◌<◌, ◌≤◌, ◌⊎◌, ◌++◌, List, [], ◌∷◌, length, take}
use Rattle.event_lines.specs.Cut.{input_lines}
use Rattle.line_quality.specs.declared.first_line.FirstLine.{FirstLine}

-- the bytes end lines: with any bytes behind them they have these, and then those of the bytes
-- behind
abbrev pub Closes : List ℕ → List (List ℕ) → Type 0
Closes bytes lines = (later : List ℕ) → input_lines (bytes ++ later) ≡ lines ++ input_lines later

-- the first line of these bytes ends there: it is the only one, or the bytes before the next one
-- close it
pub record IsFirstLine (bytes : List ℕ) (line : FirstLine) : Type 0 where
  pub within : line.next ≤ length bytes
  pub ends : line.end ≤ line.next
  pub some : 0 < length bytes → 0 < line.next
  pub lines : ((input_lines bytes ≡ take line.end bytes ∷ []) × (line.next ≡ length bytes))
      ⊎ ((0 < line.next) × Closes (take line.next bytes) (take line.end bytes ∷ []))

-- so many lines stand before this place, and none across it
pub record IsLineStart (bytes : List ℕ) (count at : ℕ) : Type 0 where
  pub within : at ≤ length bytes
  pub lines : List (List ℕ)
  pub closes : Closes (take at bytes) lines
  pub counted : length lines ≡ count
  pub apart : count ≤ at
