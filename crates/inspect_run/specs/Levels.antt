-- How good the input is, by counts alone.
use Rattle.std.specs.Prelude.{◌-◌, ◌*◌, ◌==◌, ◌&&◌, if◌then◌else◌, nat_lt}
use Rattle.trace_quality.specs.declared.tallies.Tally.{Tally}
use Rattle.inspect_run.specs.declared.level.Level.{Level}
use Rattle.inspect_run.specs.declared.level.Level.TheVariants.{Fine, Note, Warn}

-- fine where there is none, a note below one in a hundred
abbrev pub share_level : Tally → Level
share_level t =
    if t.count == 0 then Fine else (if nat_lt (100 * t.count) t.of then Note else Warn)

-- fine where there is none
abbrev pub any_level : Tally → Level
any_level t = if t.count == 0 then Fine else Warn

-- a warning where all traces are counted, and there are some
abbrev pub all_level : Tally → Level
all_level t = if nat_lt 0 t.count && (t.count == t.of) then Warn else Fine

-- fine where all traces are valid, a note where some are
abbrev pub valid_level : Tally → Level
valid_level t = if t.count == t.of then Fine else (if t.count == 0 then Warn else Note)

-- a warning where of the slowest traces more than twice the share is refused that is of all traces;
-- a note where any is
abbrev pub slowest_level : (valid slowest : Tally) → Level
slowest_level valid t =
    if t.count == 0 then Fine
    else (if nat_lt (2 * ((valid.of - valid.count) * t.of)) (t.count * valid.of) then Warn else Note)
