-- The steps of an add: its names, its days, and why one is not taken.
use Rattle.std.proofs.Common.{◌≡◌, ℕ, ◌+◌, ◌<◌, ◌≤◌, ◌^◌, ◌*◌, List, ◌∷◌, length, map, sym, ap, ◌∙◌, subst}
use Rattle.std.specs.List.{AllZip}
use Rattle.batch_sheets.specs.declared.recording.DayLines.{DayLines}
use Rattle.day_partitions.specs.Batches.{HasRoomFor, IsBatchFault, with_all}
use Rattle.day_partitions.specs.Books.{BookState, IsBook, all_traces}
use Rattle.day_partitions.specs.declared.add_all_fault.AddAllFault.{AddAllFault}
use Rattle.day_partitions.specs.declared.add_all_fault.AddAllFault.TheVariants as sheeting
use Rattle.day_partitions.specs.declared.dated_sheet.DatedSheet.{DatedSheet}
use Rattle.book_laws.specs.BookLaws.{AreSheetsOf}
use Rattle.book_laws.specs.Shown.{AreShown}
use Rattle.judged_books.specs.GivenDigests.{GivenState}
use Rattle.kept_books.specs.KeptBooks.{KeptState, under_catalogue, with_book}
use Rattle.segment_names.specs.Known.{Known, with_traces}
use Rattle.segment_names.specs.Limits.{HasCause, IsKept, PassesLimit}
use Rattle.segment_names.specs.declared.name_fault.NameFault.{NameFault}
use Rattle.segment_names.specs.declared.name_fault.NameFault.TheVariants as names
use Rattle.segment_names.specs.declared.name_fault.NameLimit.{NameLimit}
use Rattle.segment_names.specs.declared.name_fault.NameLimit.TheVariants as limits
use Rattle.session_rules.specs.Batches.{AreJudged}
use Rattle.session_rules.specs.KeptTraces.{Kept, kept_with}
use Rattle.session_rules.specs.Parts.{Refusals}
use Rattle.session_rules.specs.Sessions.{State, graced, state_after, watch_parts}
use Rattle.session_rules.specs.declared.limit.Limit.TheVariants.{Names, Tasks, Days, Traces}
use Rattle.session_rules.specs.declared.refused.Refused.{Refused}
use Rattle.trace_types.specs.Batch.{PlainTrace, traces_of}
use Rattle.trace_types.specs.declared.event.Event.{Event}
use Rattle.trace_types.specs.declared.named_trace.NamedTrace.{NamedTrace}
use Rattle.trace_types.specs.declared.trace.Trace.{Trace}
use Rattle.session.proofs.CountLemmas.{shown_long}
use Rattle.session.specs.AddLaws.{AddIsTold, AddLeadsOn, AddPassesDays, AddPassesTraces, IsAdded, IsNamedAdd, count_with, session_after}
use Rattle.session.specs.SessionStates.{SessionState, Shows}
use Rattle.session.specs.Sheets.{AreLinesOn, AreSheets, graced_by}
use Rattle.session.specs.declared.add_fault.AddFault.{AddFault}
use Rattle.session.specs.declared.add_fault.AddFault.TheVariants.{Memory, Over}
use Rattle.session.specs.inner.AddFaults.{HasAddCause, HasNamesCause, fault_of_names, fault_of_sheets}
use Rattle.session.specs.inner.AddSteps.{AreBooked, AreNamed, HasDaysCause, HasRoom, HasRoomCause, IsAddOf}
use Rattle.session.specs.inner.Changes.{session_with_book}

-- why names are not added
pub names_cause : (fault : NameFault) (known : Known) (valid : List Trace) → HasCause (PassesLimit known valid) fault → HasNamesCause known valid (fault_of_names fault)
names_cause names.Memory known valid h = h
names_cause (names.Over (limits.Names count)) known valid h = h
names_cause (names.Over (limits.Tasks count)) known valid h = h

-- why days are not added
pub days_cause : (fault : AddAllFault) (old : SessionState) (valid : List Trace) (sheets : List DatedSheet) (watched : List DayLines) → IsBook old.book → AreSheets old.known old.workers old.watch (graced_by old.grace valid) sheets watched → IsBatchFault old.book sheets fault
    → HasDaysCause old valid (fault_of_sheets fault)
days_cause (sheeting.Memory back) old valid sheets watched book recorded h = tt
days_cause (sheeting.TooManyDays back days) old valid sheets watched book recorded h = record {
  named = recorded.named;
  shown = recorded.shown;
  over = record { book = book; sheets = sheets; parts = recorded.parts; many = h.1; count = h.2 };
}

-- why there is no room for days
pub room_cause : (fault : AddFault) (old : SessionState) (valid : List Trace) (named : List NamedTrace) → AreShown old.known named (graced_by old.grace valid) → HasRoomCause old.book named fault → HasDaysCause old valid fault
room_cause Memory old valid named shown h = tt
room_cause (Over (Names count)) old valid named shown h = h
room_cause (Over (Tasks count)) old valid named shown h = h
room_cause (Over (Days days)) old valid named shown h = record { named = named; shown = shown; over = h }
room_cause (Over Traces) old valid named shown h = absurd h

-- why traces are not counted
pub count_cause : (old : SessionState) (valid : List Trace) (named : List NamedTrace) → AreShown old.known named (graced_by old.grace valid) → HasRoom old.book named → 2 ^ 64 ≤ old.given.table.traces + (length (all_traces old.book.days) + length named) → HasDaysCause old valid (Over Traces)
count_cause old valid named shown room many = record {
  named = named;
  shown = shown;
  room = room;
  many = subst (λ (n : ℕ). 2 ^ 64 ≤ count_with old n) (sym (shown_long old.known named old.grace valid shown)) many;
}

-- where they are counted
pub counted_as : (old : SessionState) (valid : List Trace) (named : List NamedTrace) → AreShown old.known named (graced_by old.grace valid) → old.given.table.traces + (length (all_traces old.book.days) + length named) < 2 ^ 64 → count_with old (length valid) < 2 ^ 64
counted_as old valid named shown few = subst (λ (n : ℕ). count_with old n < 2 ^ 64) (sym (shown_long old.known named old.grace valid shown)) few

-- a session with these fields, whose names and tasks were added and whose book was widened
abbrev pub session_of : ℕ → Known → BookState → GivenState → ℕ → ℕ → SessionState
session_of workers known book given watch grace = record { workers = workers; known = known; book = book; given = given; watch = watch; grace = grace }

pub are_named : (old : SessionState) (valid : List Trace) (workers : ℕ) (book after : KeptState) (given : GivenState) (watch grace : ℕ) → session_of workers book.known book.book given watch grace ≡ old → IsKept book.known → ((limit : NameLimit) → PassesLimit book.known valid limit → ⊥)
    → after ≡ under_catalogue (with_traces book.known valid) book.book → AreNamed old valid (session_of workers after.known after.book given watch grace)
are_named old valid workers book after given watch grace view kept none added = subst (λ (s : SessionState). AreNamed s valid (session_of workers after.known after.book given watch grace)) view (record {
  kept = kept;
  none = none;
  is = ap (λ (k : KeptState). session_of workers k.known k.book given watch grace) added;
})

-- days that were added
pub booked_of : (old : SessionState) (valid : List Trace) (named : List NamedTrace) (workers : ℕ) (book after : KeptState) (given : GivenState) (watch grace : ℕ) → session_of workers book.known book.book given watch grace ≡ old → (sheets : List DatedSheet) (watched : List DayLines) → IsBook book.book
    → AreSheets book.known workers watch (graced_by grace valid) sheets watched → HasRoomFor book.book sheets → AreShown book.known named (graced_by grace valid) → given.table.traces + (length (all_traces book.book.days) + length named) < 2 ^ 64 → after ≡ with_book book (with_all book.book sheets)
    → AreBooked old valid (session_of workers after.known after.book given watch grace) watched
booked_of old valid named workers book after given watch grace view sheets watched kept recorded room shown few added = subst (λ (s : SessionState). AreBooked s valid (session_of workers after.known after.book given watch grace) watched) view (record {
  book = kept;
  sheets = sheets;
  recorded = recorded;
  room = room;
  counted = counted_as (session_of workers book.known book.book given watch grace) valid named shown few;
  is = ap (λ (k : KeptState). session_of workers k.known k.book given watch grace) added;
})

-- an add whose names are not added
pub named_cause : (fault : AddFault) (old : SessionState) (s : State) (events : List Event) (valid : List Trace) (refused : List Refused) → Shows old s → AreJudged (traces_of events) valid refused → HasNamesCause old.known valid fault → HasAddCause events s fault
named_cause Memory old s events valid refused shown j h = tt
named_cause (Over (Names count)) old s events valid refused shown j h = (valid, refused, j, subst (λ k. PassesLimit k valid (limits.Names count)) shown.known h)
named_cause (Over (Tasks count)) old s events valid refused shown j h = (valid, refused, j, subst (λ k. PassesLimit k valid (limits.Tasks count)) shown.known h)
named_cause (Over (Days count)) old s events valid refused shown j h = absurd h
named_cause (Over Traces) old s events valid refused shown j h = absurd h

-- names that are known, and then days
module _ (old : SessionState) (valid : List Trace) (wide : SessionState) (named : AreNamed old valid wide) where
  is_added : (sheets : List DatedSheet) (watched : List DayLines) → IsBook wide.book → AreSheets wide.known wide.workers wide.watch (graced_by wide.grace valid) sheets watched → count_with wide (length valid) < 2 ^ 64 → IsAdded old wide.book valid sheets watched
  is_added sheets watched book recorded few = record {
    kept = named.kept;
    days = ap (λ (x : SessionState). x.book.days) named.is;
    book = book;
    none = named.none;
    recorded = subst (λ (x : SessionState). AreSheets x.known x.workers x.watch (graced_by x.grace valid) sheets watched) named.is recorded;
    counted = subst (λ (x : SessionState). count_with x (length valid) < 2 ^ 64) named.is few;
  }

  -- the add whose days were added
  pub add_of : (leads : AddLeadsOn) (tells : AddIsTold) (s : State) (events : List Event) (refused : List Refused) (new : SessionState) (watched : List DayLines) → Shows old s → AreJudged (traces_of events) valid refused → AreBooked wide valid new watched → IsAddOf old.workers events s new refused watched
  add_of leads tells s events refused new watched shown j b =
      let added = is_added b.sheets watched b.book b.recorded b.counted in
      let led = leads old s events valid refused wide.book b.sheets watched shown added j b.room in
      let same : session_after old wide.book valid b.sheets ≡ new = sym (b.is ∙ ap (λ (x : SessionState). session_with_book x (with_all wide.book b.sheets)) named.is) in
      let graces : graced_by old.grace valid ≡ graced s valid = ap (λ g. map (kept_with (1000 * g)) valid) shown.grace in
      record {
        parts = Refusals refused ∷ watch_parts s.watch old.workers (graced s valid) added.recorded.days;
        next = state_after s valid;
        does = led.0;
        shows = subst (λ (x : SessionState). Shows x (state_after s valid)) same led.1;
        told = tells s.watch old.workers refused (graced s valid) added.recorded.days watched
            (subst (λ (k : List Kept). AllZip (AreLinesOn s.watch old.workers k) added.recorded.days watched) graces
            (subst (λ e. AllZip (AreLinesOn e old.workers (graced_by old.grace valid)) added.recorded.days watched) shown.watch added.recorded.lines));
      }

  -- the traces are named, where sheets have just these
  is_named_add : (h_named : List NamedTrace) (sheets : List DatedSheet) → IsBook wide.book → AreShown wide.known h_named (graced_by wide.grace valid) → AreSheetsOf sheets h_named → IsNamedAdd old wide.book valid h_named sheets
  is_named_add h_named sheets book shown parts = record {
    kept = named.kept;
    days = ap (λ (x : SessionState). x.book.days) named.is;
    book = book;
    none = named.none;
    shown = subst (λ (x : SessionState). AreShown x.known h_named (graced_by x.grace valid)) named.is shown;
    parts = parts;
  }

  -- an add whose days are not added
  pub booked_cause : (passes : AddPassesDays) (uncounted : AddPassesTraces) (fault : AddFault) (s : State) (events : List Event) (refused : List Refused) → Shows old s → AreJudged (traces_of events) valid refused → HasDaysCause wide valid fault → HasAddCause events s fault
  booked_cause passes uncounted Memory s events refused shown j h = tt
  booked_cause passes uncounted (Over (Names count)) s events refused shown j h = absurd h
  booked_cause passes uncounted (Over (Tasks count)) s events refused shown j h = absurd h
  booked_cause passes uncounted (Over (Days days)) s events refused shown j h = (
    valid,
    refused,
    j,
    passes old s valid wide.book h.named h.over.sheets days shown (is_named_add h.named h.over.sheets h.over.book h.shown h.over.parts) h.over.many h.over.count,
  )
  booked_cause passes uncounted (Over Traces) s events refused shown j h = (
    valid,
    refused,
    j,
    uncounted old s valid wide.book h.named h.room.sheets shown (is_named_add h.named h.room.sheets h.room.book h.shown h.room.parts) h.room.room
        (subst (λ (x : SessionState). 2 ^ 64 ≤ count_with x (length valid)) named.is h.many),
  )

-- what is judged of the traces that were gathered of a batch is judged of its traces
pub judged_as : (gathered : List PlainTrace) (events : List Event) (valid : List Trace) (refused : List Refused) → gathered ≡ traces_of events → AreJudged gathered valid refused → AreJudged (traces_of events) valid refused
judged_as gathered events valid refused same judged = subst (λ ts. AreJudged ts valid refused) same judged
