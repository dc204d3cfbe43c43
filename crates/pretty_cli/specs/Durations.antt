-- How durations, differences and shares are written.
use Rattle.std.specs.Prelude.{ℕ, ◌+◌, ◌-◌, ◌*◌, ◌/◌, ◌%◌, ◌++◌, ◌∷◌, ◌==◌, [], List, codes, decimal}
use Rattle.std.specs.Prelude.{if◌then◌else◌, nat_le, nat_lt}

-- a number as a multiple of a step, rounded; a half counts up
abbrev pub rounded : ℕ → ℕ → ℕ
rounded number step = (number + step / 2) / step

-- a number of tenths
abbrev pub with_tenths : ℕ → List ℕ
with_tenths tenths = decimal (tenths / 10) ++ codes "." ++ decimal (tenths % 10)

-- a number of hundredths
abbrev pub with_hundredths : ℕ → List ℕ
with_hundredths hundredths = decimal (hundredths / 100) ++ codes "."
    ++ decimal (hundredths / 10 % 10) ++ decimal (hundredths % 10)

-- the micro sign and an s, in UTF-8
abbrev pub microseconds : List ℕ
microseconds = 194 ∷ 181 ∷ codes "s"

-- the unit for so many nanoseconds, a thousand or more: its length in nanoseconds and its name. A
-- unit is taken from one of it on; minutes from ten of them on, hours from ten, days from ten
abbrev pub unit_of : ℕ → ℕ × List ℕ
unit_of nanos =
    if nat_lt nanos 1000000 then (1000, microseconds)
    else if nat_lt nanos 1000000000 then (1000000, codes "ms")
    else if nat_lt nanos 600000000000 then (1000000000, codes "s")
    else if nat_lt nanos 36000000000000 then (60000000000, codes "min")
    else if nat_lt nanos 864000000000000 then (3600000000000, codes "h")
    else (86400000000000, codes "d")

-- nanoseconds in a unit, rounded to three digits, or to a whole number from a hundred on
abbrev pub in_unit : ℕ → ℕ → List ℕ
in_unit nanos unit =
    if nat_le 100 (nanos / unit) then decimal (rounded nanos unit)
    else if nat_le 10 (nanos / unit) then with_tenths (rounded nanos (unit / 10))
    else with_hundredths (rounded nanos (unit / 100))

-- a duration in nanoseconds, as `84.1 ms`
abbrev pub duration_text : ℕ → List ℕ
duration_text nanos =
    if nat_lt nanos 1000 then decimal nanos ++ codes " ns"
    else in_unit nanos (unit_of nanos).0 ++ codes " " ++ (unit_of nanos).1

-- the sign of the first number less the second
abbrev pub sign_of : ℕ → ℕ → List ℕ
sign_of first second =
    if nat_lt first second then codes "-" else if nat_lt second first then codes "+" else []

-- how far two numbers are apart
abbrev pub apart : ℕ → ℕ → ℕ
apart first second = if nat_lt first second then second - first else first - second

-- how much longer the first duration is than the second, as `+12.1 ms` and `-3.00 ms`
abbrev pub difference_text : ℕ → ℕ → List ℕ
difference_text first second = sign_of first second ++ duration_text (apart first second)

-- a part of a total in percent, as `44.3%`; nothing of no total
abbrev pub share_text : ℕ → ℕ → List ℕ
share_text part total =
    if total == 0 then [] else with_tenths (rounded (part * 1000) total) ++ codes "%"
