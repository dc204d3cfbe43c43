-- What a view shows to be cleared.
use Rattle.std.specs.Prelude.{ℕ, Bool, ◌||◌}
use Rattle.word_rows.specs.declared.views.View.{View}
use Rattle.word_rows.specs.Rows.{rows_clear}
use Rattle.word_rows.specs.Accounts.{lacks}

-- a done row or a seen row of the view clears this bit, or a reading of its word lacks it
abbrev pub shows : View → ℕ → ℕ → Bool
shows v word bit =
    (rows_clear v.done word bit || rows_clear v.seen word bit) || lacks v.readings word bit
