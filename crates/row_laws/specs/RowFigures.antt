-- What the figures of a row of the evidence of kept traces say of the two that it names: statements
-- that laws prove.
use Rattle.std.specs.Prelude.{ℕ, List, ◌++◌, Contains}
use Rattle.evidence_rules.specs.EvidenceRows.{Rows}
use Rattle.evidence_rules.specs.Meetings.{AreMeetingFigures, meetings_from}
use Rattle.evidence_rules.specs.Sharings.{AreSharings}
use Rattle.evidence_rules.specs.declared.between.Between.{Between}
use Rattle.evidence_rules.specs.declared.choice.Choice.{Choice}
use Rattle.evidence_rules.specs.declared.pair_row.PairRow.{PairRow}
use Rattle.evidence_rules.specs.declared.sharing.Sharing.{Sharing}
use Rattle.segment_names.specs.Known.{same_name}
use Rattle.session_rules.specs.EvidenceTexts.{IsEvidenceText}
use Rattle.session_rules.specs.KeptTraces.{Kept, by_kept}
use Rattle.row_laws.specs.ModelRows.{TwoNames, TwoTasks}
use Rattle.row_laws.specs.NamedRows.{NamesTwo}
use Rattle.row_laws.specs.TraceCounts.{CountTraces}

-- the rows of two names, of whichever kind, and those of two tasks
abbrev pub rows_of_names : Rows → List (PairRow Between)
rows_of_names rows =
    rows.orders ++ (rows.exclusions ++ (rows.nearly_orders ++ rows.nearly_exclusions))

abbrev pub rows_of_tasks : Rows → List (PairRow Sharing)
rows_of_tasks rows = rows.pipes ++ rows.nearly_pipes

-- the figures of a row of two names are those of the meetings of the two
abbrev pub NameRowsAreMet : Type 0
NameRowsAreMet = (choice : Choice) (kept : List Kept) (bytes : List ℕ)
    (text : IsEvidenceText choice kept bytes) (row : PairRow Between) (pair : TwoNames)
    → Contains (rows_of_names text.rows) row → NamesTwo text.names row pair
    → AreMeetingFigures (meetings_from by_kept same_name pair.0 pair.1 0 kept) row.figures

-- and they are numbers of kept traces
abbrev pub NameRowsCountTraces : Type 0
NameRowsCountTraces = (choice : Choice) (kept : List Kept) (bytes : List ℕ)
    (text : IsEvidenceText choice kept bytes) (row : PairRow Between) (pair : TwoNames)
    → Contains (rows_of_names text.rows) row → NamesTwo text.names row pair
    → CountTraces by_kept kept pair.0 pair.1 row.figures

-- the figures of a row of two tasks are those of the elements that the two share
abbrev pub TaskRowsAreShared : Type 0
TaskRowsAreShared = (choice : Choice) (kept : List Kept) (bytes : List ℕ)
    (text : IsEvidenceText choice kept bytes) (row : PairRow Sharing) (pair : TwoTasks)
    → Contains (rows_of_tasks text.rows) row → NamesTwo text.tasks row pair
    → AreSharings by_kept kept pair.0 pair.1 row.figures
