-- Options that are read one after another.
use Rattle.std.specs.Prelude.{ℕ, ◌≡◌, ◌≤◌, ◌==◌, List, Option, Some, None, length, drop}
use Rattle.std.specs.Prelude.{if◌then◌else◌}
use Rattle.import_run.specs.CommandLines.{Asked, call_after, call_with}
use Rattle.import_run.specs.declared.form.Form.{Form}
use Rattle.import_run.specs.declared.command_line.TakenOption.{TakenOption}
use Rattle.import_run.specs.inner.ParsedLines.{asked_view}

-- the option that these words begin with was read: the call goes on behind it; or there is none, and
-- they are files; or it is refused
abbrev pub TakesOption : Asked → List (List ℕ) → Option TakenOption → Type 0
TakesOption asked words None = (form : Form) → call_after form asked words ≡ None
TakesOption asked words (Some taken) = (taken.count ≤ length words)
    × ((form : Form) → call_after form asked words
    ≡ (if taken.count == 0 then call_with form asked words
    else call_after form (asked_view taken.asked) (drop taken.count words)))
