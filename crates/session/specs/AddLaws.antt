-- What holds of the traces of an add, over the definitions alone.
use Rattle.std.specs.Prelude.{◌≡◌, ℕ, ◌+◌, ◌^◌, ◌<◌, ◌≤◌, ◌++◌, ◌∷◌, List, length}
use Rattle.std.specs.List.{AllZip, flat_map}
use Rattle.batch_sheets.specs.declared.recording.DayLines.{DayLines}
use Rattle.book_laws.specs.BookLaws.{AreSheetsOf}
use Rattle.book_laws.specs.Shown.{AreShown}
use Rattle.day_partitions.specs.Batches.{HasRoomFor, new_days, with_all}
use Rattle.day_partitions.specs.Books.{BookState, IsBook, all_traces}
use Rattle.day_partitions.specs.Batches.{trace_count}
use Rattle.day_partitions.specs.declared.dated_sheet.DatedSheet.{DatedSheet}
use Rattle.segment_names.specs.Limits.{PassesLimit}
use Rattle.segment_names.specs.declared.name_fault.NameLimit.{NameLimit}
use Rattle.segment_names.specs.Known.{Known, with_traces}
use Rattle.segment_names.specs.Limits.{IsKept}
use Rattle.session_rules.specs.KeptTraces.{Kept}
use Rattle.session_rules.specs.Parts.{IsPart, Refusals, refused_row, watch_row}
use Rattle.session_rules.specs.Sessions.{Adds, PassesLimitOf, State, graced, most_days, state_after}
use Rattle.session_rules.specs.Sessions.{watch_parts}
use Rattle.session_rules.specs.declared.limit.Limit.TheVariants.{Days, Traces}
use Rattle.session_rules.specs.Batches.{AreJudged}
use Rattle.session_rules.specs.declared.refused.Refused.{Refused}
use Rattle.text_rows.specs.TextsOfParts.{AreTexts}
use Rattle.trace_types.specs.Batch.{requests_of, traces_of}
use Rattle.trace_types.specs.declared.event.Event.{Event}
use Rattle.trace_types.specs.declared.named_trace.NamedTrace.{NamedTrace}
use Rattle.trace_types.specs.declared.trace.Trace.{Trace}
use Rattle.session.specs.SessionStates.{SessionState, Shows}
use Rattle.session.specs.Sheets.{AreLinesOn, AreSheets, graced_by}

-- there are no fewer names once traces are added
abbrev pub NamesGrow : Type 0
NamesGrow = (known : Known) (valid : List Trace) → IsKept known
    → length known.names ≤ length (with_traces known valid).names

-- a batch has no more valid traces than requests
abbrev pub NoMoreAreValid : Type 0
NoMoreAreValid = (events : List Event) (valid : List Trace) (refused : List Refused)
    → AreJudged (traces_of events) valid refused → length valid ≤ length (requests_of events)

-- sheets of traces have no more traces than there are
abbrev pub NoMoreAreSheeted : Type 0
NoMoreAreSheeted = (named : List NamedTrace) (sheets : List DatedSheet)
    → AreSheetsOf sheets named → trace_count sheets ≤ length named

-- a session after an add of recorded sheets to its book, which was widened to its names then
abbrev pub session_after : SessionState → BookState → List Trace → List DatedSheet → SessionState
session_after old wide valid sheets = record {
  workers = old.workers;
  known = with_traces old.known valid;
  book = with_all wide sheets;
  given = old.given;
  watch = old.watch;
  grace = old.grace;
}

-- the traces of the given digest, those in the book and so many more
abbrev pub count_with : SessionState → ℕ → ℕ
count_with s more = s.given.table.traces + (length (all_traces s.book.days) + more)

-- the valid traces of a batch are recorded, no limit of names or tasks is passed, the book has the
-- days of the session's, and all traces can be counted in 64 bits
pub record IsAdded (old : SessionState) (wide : BookState) (valid : List Trace)
    (sheets : List DatedSheet) (watched : List DayLines) : Type 0 where
  pub kept : IsKept old.known
  pub days : wide.days ≡ old.book.days
  pub book : IsBook wide
  pub none : (limit : NameLimit) → PassesLimit old.known valid limit → ⊥
  pub recorded : AreSheets (with_traces old.known valid) old.workers old.watch
      (graced_by old.grace valid) sheets watched
  pub counted : count_with old (length valid) < 2 ^ 64

-- where the book has room for their days, an add of the sheets leads the session on as the
-- definition of an add says
abbrev pub AddLeadsOn : Type 0
AddLeadsOn = (old : SessionState) (s : State) (events : List Event) (valid : List Trace)
    (refused : List Refused) (wide : BookState) (sheets : List DatedSheet)
    (watched : List DayLines) → Shows old s → (a : IsAdded old wide valid sheets watched)
    → AreJudged (traces_of events) valid refused → HasRoomFor wide sheets
    → Adds old.workers events s
    (Refusals refused ∷ watch_parts s.watch old.workers (graced s valid) a.recorded.days)
    (state_after s valid)
    × Shows (session_after old wide valid sheets) (state_after s valid)

-- the valid traces of a batch are named, no limit of names or tasks is passed, the book has the
-- days of the session's, and sheets have just the named traces
pub record IsNamedAdd (old : SessionState) (wide : BookState) (valid : List Trace)
    (named : List NamedTrace) (sheets : List DatedSheet) : Type 0 where
  pub kept : IsKept old.known
  pub days : wide.days ≡ old.book.days
  pub book : IsBook wide
  pub none : (limit : NameLimit) → PassesLimit old.known valid limit → ⊥
  pub shown : AreShown (with_traces old.known valid) named (graced_by old.grace valid)
  pub parts : AreSheetsOf sheets named

-- where there would be too many days, the add passes the limit of days
abbrev pub AddPassesDays : Type 0
AddPassesDays = (old : SessionState) (s : State) (valid : List Trace) (wide : BookState)
    (named : List NamedTrace) (sheets : List DatedSheet) (days : ℕ) → Shows old s
    → IsNamedAdd old wide valid named sheets → most_days < days
    → days ≡ length wide.days + new_days wide.days sheets → PassesLimitOf s valid (Days days)

-- where there would not be too many days, but more traces than 64 bits count, the add passes the
-- limit of traces
abbrev pub AddPassesTraces : Type 0
AddPassesTraces = (old : SessionState) (s : State) (valid : List Trace) (wide : BookState)
    (named : List NamedTrace) (sheets : List DatedSheet) → Shows old s
    → IsNamedAdd old wide valid named sheets → HasRoomFor wide sheets
    → 2 ^ 64 ≤ count_with old (length valid) → PassesLimitOf s valid Traces

-- the watch rows of a day, and the text of an add
abbrev pub day_text : DayLines → List ℕ
day_text watched = flat_map (watch_row watched.day) watched.lines

abbrev pub added_text : List Refused → List DayLines → List ℕ
added_text refused watched = flat_map refused_row refused ++ flat_map day_text watched

-- the rows of the refused traces, and then the watch rows by day, are a text of the parts of an add
abbrev pub AddIsTold : Type 0
AddIsTold = (every workers : ℕ) (refused : List Refused) (kept : List Kept) (days : List ℕ)
    (watched : List DayLines) → AllZip (AreLinesOn every workers kept) days watched
    → AreTexts IsPart (Refusals refused ∷ watch_parts every workers kept days)
    (added_text refused watched)
