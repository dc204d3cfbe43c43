-- How times, shares and places are written.
use Rattle.std.specs.Prelude.{ℕ, ◌+◌, ◌*◌, ◌/◌, ◌%◌, ◌++◌, ◌∷◌, ◌==◌, ◌&&◌, [], List, codes}
use Rattle.std.specs.Prelude.{decimal, if◌then◌else◌, nat_lt}

-- a place from 0 to 100,000 of the width of a picture, in percent with three decimals
unfoldable pub place_text : ℕ → List ℕ
place_text place = decimal (place / 1000) ++ codes "." ++ decimal (place / 100 % 10)
    ++ decimal (place / 10 % 10) ++ decimal (place % 10) ++ codes "%"

-- how many steps of this many parts each a number of parts is, rounded; a half counts up
abbrev pub rounded : (parts step : ℕ) → ℕ
rounded parts step = (2 * parts + step) / (2 * step)

-- a number of hundredths, and of tenths, without zeros at the end
abbrev pub hundredths_text : ℕ → List ℕ
hundredths_text n =
    if n % 100 == 0 then decimal (n / 100)
    else if n % 10 == 0 then decimal (n / 100) ++ codes "." ++ decimal (n / 10 % 10)
    else decimal (n / 100) ++ codes "." ++ decimal (n / 10 % 10) ++ decimal (n % 10)

abbrev pub tenths_text : ℕ → List ℕ
tenths_text n =
    if n % 10 == 0 then decimal (n / 10) else decimal (n / 10) ++ codes "." ++ decimal (n % 10)

-- nanoseconds in a unit of so many, with three digits
unfoldable pub in_unit : (nanos unit : ℕ) → List ℕ
in_unit nanos unit =
    if nat_lt (rounded (100 * nanos) unit) 1000 then hundredths_text (rounded (100 * nanos) unit)
    else if nat_lt (rounded (10 * nanos) unit) 1000 then tenths_text (rounded (10 * nanos) unit)
    else decimal (rounded nanos unit)

-- the micro sign in UTF-8, between a space and an s
abbrev pub microseconds : List ℕ
microseconds = 32 ∷ 194 ∷ 181 ∷ codes "s"

-- a number of a smaller unit behind one of a greater unit; nothing where there is none
abbrev pub rest_text : ℕ → List ℕ → List ℕ
rest_text n unit = if n == 0 then [] else codes " " ++ decimal n ++ unit

-- seconds from a minute on, rounded down: in minutes and seconds, from an hour on in hours and
-- minutes, and from two days on in days
unfoldable pub long_text : ℕ → List ℕ
long_text seconds =
    if nat_lt seconds 3600
    then decimal (seconds / 60) ++ codes " min" ++ rest_text (seconds % 60) (codes " s")
    else if nat_lt seconds 172800
    then decimal (seconds / 3600) ++ codes " h" ++ rest_text (seconds / 60 % 60) (codes " min")
    else decimal (seconds / 86400) ++ codes " days"

-- a time of less than a minute, with three digits
abbrev pub short_text : ℕ → List ℕ
short_text nanos =
    if nat_lt nanos 1000 then decimal nanos ++ codes " ns"
    else if nat_lt nanos 999500 then in_unit nanos 1000 ++ microseconds
    else if nat_lt nanos 999500000 then in_unit nanos 1000000 ++ codes " ms"
    else in_unit nanos 1000000000 ++ codes " s"

-- a time in nanoseconds
unfoldable pub time_text : ℕ → List ℕ
time_text nanos =
    if nat_lt nanos 60000000000 then short_text nanos else long_text (nanos / 1000000000)

-- a part of a whole in percent with one decimal; less than that is said so
unfoldable pub share_text : (part whole : ℕ) → List ℕ
share_text part whole =
    if whole == 0 then codes "0 %"
    else if nat_lt 0 part && rounded (1000 * part) whole == 0 then codes "&lt;0.1 %"
    else decimal (rounded (1000 * part) whole / 10) ++ codes "."
    ++ decimal (rounded (1000 * part) whole % 10) ++ codes " %"
