-- What a table of meetings is seen as.
use Rattle.std.specs.Prelude.{ℕ, List, map}
use Rattle.std.specs.List.{range_with_len}
use Rattle.evidence_rules.specs.declared.between.Between.{Between}
use Rattle.name_meetings.specs.Tables.{TableState}
use Rattle.name_meetings.specs.declared.meeting_table.StripTables.{StripTables}
use Rattle.name_meetings.specs.declared.meeting_table.StripTables.TheVariants.{Narrow, Wide}
use Rattle.name_meetings.specs.inner.Strips.{figures_in}

-- the figures of each two names below a number
abbrev pub square : ℕ → (ℕ → ℕ → Between) → List (List Between)
square names figures =
    map (λ (a : ℕ). map (figures a) (range_with_len 0 names)) (range_with_len 0 names)

-- the number of names and the figures of each two
abbrev pub state_of : StripTables → TableState
state_of (Narrow table) = record {
  names = table.names;
  rows = square table.names (figures_in (λ gap. gap) table.names table.strips.items);
}
state_of (Wide table) = record {
  names = table.names;
  rows = square table.names (figures_in (λ gap. gap) table.names table.strips.items);
}
