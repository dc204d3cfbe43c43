-- Days as dates.
use Rattle.std.specs.Prelude.{ℕ, ◌≡◌, ◌<◌, List, Option, MatchOption, decimal, pos}
use Rattle.jiff_core.specs.Date.{epoch_day}
use Rattle.jiff_core.specs.declared.civil.date.Date.{Date}
use Rattle.jiff_fmt.specs.Text.{date_text}

-- the date with this number of days since 1970; none past the year 9999
abbrev pub IsDateOf : ℕ → Option Date → Type 0
IsDateOf day found = MatchOption found (2932896 < day) (λ date. epoch_day date ≡ pos day)

-- the date with this number of days since 1970, as `2024-03-18`; the number past the year 9999
abbrev pub IsDateText : ℕ → List ℕ → Type 0
IsDateText day text = (found : Option Date) × IsDateOf day found
    × MatchOption found (text ≡ decimal day) (λ date. text ≡ date_text date)
