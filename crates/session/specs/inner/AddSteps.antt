-- The steps of an add over a session: its names, then its days, and what is printed of both.
use Rattle.std.specs.Prelude.{◌≡◌, ℕ, ◌+◌, ◌^◌, ◌<◌, ◌≤◌, List, length, ⊤}
use Rattle.batch_sheets.specs.declared.recording.DayLines.{DayLines}
use Rattle.book_laws.specs.BookLaws.{AreSheetsOf}
use Rattle.book_laws.specs.Shown.{AreShown}
use Rattle.day_partitions.specs.Batches.{HasRoomFor, new_days, with_all}
use Rattle.day_partitions.specs.Books.{BookState, IsBook}
use Rattle.day_partitions.specs.declared.dated_sheet.DatedSheet.{DatedSheet}
use Rattle.segment_names.specs.Limits.{IsKept, PassesLimit}
use Rattle.segment_names.specs.declared.name_fault.NameLimit.{NameLimit}
use Rattle.session_rules.specs.Parts.{IsPart, Part}
use Rattle.session_rules.specs.Sessions.{Adds, State, most_days}
use Rattle.session_rules.specs.declared.limit.Limit.TheVariants.{Names, Tasks, Days, Traces}
use Rattle.session_rules.specs.declared.refused.Refused.{Refused}
use Rattle.text_rows.specs.TextsOfParts.{AreTexts}
use Rattle.trace_types.specs.declared.event.Event.{Event}
use Rattle.trace_types.specs.declared.named_trace.NamedTrace.{NamedTrace}
use Rattle.trace_types.specs.declared.trace.Trace.{Trace}
use Rattle.session.specs.AddLaws.{added_text, count_with}
use Rattle.session.specs.SessionStates.{SessionState, Shows}
use Rattle.session.specs.Sheets.{AreSheets, graced_by}
use Rattle.session.specs.declared.add_fault.AddFault.{AddFault}
use Rattle.session.specs.declared.add_fault.AddFault.TheVariants.{Memory, Over}
use Rattle.session.specs.inner.Changes.{session_with_book, session_with_names}

-- the names and tasks of the valid traces were added, and none of their limits is passed
pub record AreNamed (old : SessionState) (valid : List Trace) (named : SessionState) : Type 0 where
  pub kept : IsKept old.known
  pub none : (limit : NameLimit) → PassesLimit old.known valid limit → ⊥
  pub is : named ≡ session_with_names old valid

-- the valid traces were recorded, and their sheets added to a book with room for their days; all
-- traces can be counted in 64 bits
pub record AreBooked (old : SessionState) (valid : List Trace) (new : SessionState)
    (watched : List DayLines) : Type 0 where
  pub book : IsBook old.book
  pub sheets : List DatedSheet
  pub recorded : AreSheets old.known old.workers old.watch (graced_by old.grace valid) sheets
      watched
  pub room : HasRoomFor old.book sheets
  pub counted : count_with old (length valid) < 2 ^ 64
  pub is : new ≡ session_with_book old (with_all old.book sheets)

-- with sheets of the traces the book would have too many days: so many
pub record LacksRoom (b : BookState) (named : List NamedTrace) (days : ℕ) : Type 0 where
  pub book : IsBook b
  pub sheets : List DatedSheet
  pub parts : AreSheetsOf sheets named
  pub many : most_days < days
  pub count : days ≡ length b.days + new_days b.days sheets

-- with sheets of the traces the book would not have too many days
pub record HasRoom (b : BookState) (named : List NamedTrace) : Type 0 where
  pub book : IsBook b
  pub sheets : List DatedSheet
  pub parts : AreSheetsOf sheets named
  pub room : HasRoomFor b sheets

-- memory ran out, or the book would have so many days
abbrev pub HasRoomCause : BookState → List NamedTrace → AddFault → Type 0
HasRoomCause b named Memory = ⊤
HasRoomCause b named (Over (Names count)) = ⊥
HasRoomCause b named (Over (Tasks count)) = ⊥
HasRoomCause b named (Over (Days days)) = LacksRoom b named days
HasRoomCause b named (Over Traces) = ⊥

-- the valid traces are named, and with their days there would be too many: so many
pub record PassDays (old : SessionState) (valid : List Trace) (days : ℕ) : Type 0 where
  pub named : List NamedTrace
  pub shown : AreShown old.known named (graced_by old.grace valid)
  pub over : LacksRoom old.book named days

-- the valid traces are named, there is room for their days, and all traces would be too many to be
-- counted in 64 bits
pub record PassTraces (old : SessionState) (valid : List Trace) : Type 0 where
  pub named : List NamedTrace
  pub shown : AreShown old.known named (graced_by old.grace valid)
  pub room : HasRoom old.book named
  pub many : 2 ^ 64 ≤ count_with old (length valid)

-- memory ran out, there would be so many days, or else more traces than are counted
abbrev pub HasDaysCause : SessionState → List Trace → AddFault → Type 0
HasDaysCause old valid Memory = ⊤
HasDaysCause old valid (Over (Names count)) = ⊥
HasDaysCause old valid (Over (Tasks count)) = ⊥
HasDaysCause old valid (Over (Days days)) = PassDays old valid days
HasDaysCause old valid (Over Traces) = PassTraces old valid

-- the events were added from this state, and the session shows the state after it; the rows of
-- these refused traces and watch lines are a text of its parts
pub record IsAddOf (workers : ℕ) (events : List Event) (s : State) (session : SessionState)
    (refused : List Refused) (watched : List DayLines) : Type 0 where
  pub parts : List Part
  pub next : State
  pub does : Adds workers events s parts next
  pub shows : Shows session next
  pub told : AreTexts IsPart parts (added_text refused watched)
