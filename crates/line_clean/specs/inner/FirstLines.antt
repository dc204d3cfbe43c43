-- The first line of bytes.
use Rattle.std.specs.Prelude.{ℕ, ◌≡◌, ◌<◌, ◌≤◌, ◌⊎◌, List, [], ◌∷◌, drop, length, take}
use Rattle.event_lines.specs.Cut.{input_lines}
use Rattle.line_clean.specs.declared.first_line.FirstLine.{FirstLine}

-- the first line of these bytes ends there: it is the only one, or the lines after it are those of
-- the bytes from the next one on
pub record IsFirstLine (bytes : List ℕ) (line : FirstLine) : Type 0 where
  pub within : line.next ≤ length bytes
  pub ends : line.end ≤ line.next
  pub some : 0 < length bytes → 0 < line.next
  pub lines : ((input_lines bytes ≡ take line.end bytes ∷ []) × (line.next ≡ length bytes))
      ⊎ (input_lines bytes ≡ take line.end bytes ∷ input_lines (drop line.next bytes))
