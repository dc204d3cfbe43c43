-- Which line of some is the first bad one.
use Rattle.std.specs.Prelude.{ℕ, ◌≡◌, ◌+◌, ◌<◌, ◌⊎◌, ◌||◌, List, [], ◌∷◌, true, false, ⊤}
use Rattle.event_lines.specs.Cut.{is_blank_line}
use Rattle.line_clean.specs.Lines.{is_good}

-- of lines that are numbered from n on the one with this number is the first that is bad, and the
-- lines before it are good or blank; there may be fewer lines
abbrev pub IsFirstBad : ℕ → ℕ → List (List ℕ) → Type 0
IsFirstBad n bad [] = ⊤
IsFirstBad n bad (line ∷ lines) =
    ((n ≡ bad) × (is_good line ≡ false))
    ⊎ ((n < bad) × ((is_blank_line line || is_good line) ≡ true) × IsFirstBad (n + 1) bad lines)
