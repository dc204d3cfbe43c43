-- What contracts see of a table, a pass and a note.
use Rattle.std.specs.Prelude.{◌≡◌, ℕ, List, ◌++◌}
use Rattle.atomic_table.specs.Seated.{TableId}
use Rattle.word_rows.specs.declared.views.View.{View}
use Rattle.word_rows.specs.declared.events.StepEvent.{StepEvent}
use Rattle.word_rows.specs.Changes.{joined_view}

-- a pass or a note: of which table it is, what it did and was told, and the pasts that it knows
pub record Holding : Type 0 where
  pub table_id : TableId
  pub view : View
  pub pasts : List (List StepEvent)

-- the same pass or note with another view
abbrev pub with_view : Holding → View → Holding
with_view holding view = record { table_id = holding.table_id; view = view; pasts = holding.pasts }

-- two passes, or a pass and a note, as one
abbrev pub together : Holding → Holding → Holding
together pass other = record {
  table_id = pass.table_id;
  view = joined_view pass.view other.view;
  pasts = pass.pasts ++ other.pasts;
}

-- a table: which it is, the number of its words and the number of all shares
pub record Opened : Type 0 where
  pub table_id : TableId
  pub width : ℕ
  pub all : ℕ

-- the pass or note is of this table, and carries the number of shares that the table was opened
-- with
pub record IsOfTable (table : Opened) (holding : Holding) : Type 0 where
  pub table_id : holding.table_id ≡ table.table_id
  pub all : holding.view.all ≡ table.all
