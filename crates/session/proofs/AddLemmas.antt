-- What an add does to the state that a session shows, and what it prints.
use Rattle.std.proofs.Common.{◌≡◌, ℕ, ◌<◌, ◌≤◌, ◌^◌, ◌+◌, ◌*◌, List, [], ◌∷◌, length, map, Contains, refl, sym, ap, ◌∙◌, subst, arith}
use Rattle.std.specs.List.{AllZip, flat_map}
use Rattle.day_partitions.specs.Batches.{HasRoomFor, new_days, with_all}
use Rattle.day_partitions.specs.Books.{BookState, all_traces}
use Rattle.day_partitions.specs.declared.dated_sheet.DatedSheet.{DatedSheet}
use Rattle.batch_sheets.specs.declared.recording.DayLines.{DayLines}
use Rattle.book_laws.specs.BookLaws.{DaysAreCounted, GrownShows, SheetsShow}
use Rattle.book_laws.specs.Shown.{AreShown, IsShown}
use Rattle.std.specs.Ordering.{nat_cmp}
use Rattle.std.proofs.lemmas.List.{length-map}
use Rattle.judged_books.specs.JudgedLaws.{GrownBeginsAlike}
use Rattle.trace_types.specs.Listing.{ListsExactly}
use Rattle.segment_names.specs.Known.{with_traces}
use Rattle.segment_names.specs.Limits.{PassesLimit}
use Rattle.segment_names.specs.declared.name_fault.NameLimit.{NameLimit}
use Rattle.segment_names.specs.declared.name_fault.NameLimit.TheVariants as limits
use Rattle.session_rules.specs.Batches.{AreJudged}
use Rattle.session_rules.specs.KeptTraces.{Kept, day_of, days_of, kept_with, with_taken}
use Rattle.session_rules.specs.ModelTexts.{traces_under}
use Rattle.session_rules.specs.Parts.{IsPart, Part, Refusals, refused_row, watch_row}
use Rattle.session_rules.specs.Sessions.{Adds, PassesLimitOf, State, graced, kept_after, state_after, watch_parts}
use Rattle.session_rules.specs.declared.limit.Limit.{Limit}
use Rattle.session_rules.specs.declared.limit.Limit.TheVariants.{Names, Tasks, Days, Traces}
use Rattle.session_rules.specs.declared.refused.Refused.{Refused}
use Rattle.text_rows.specs.TextsOfParts.{AreTexts}
use Rattle.trace_types.specs.declared.event.Event.{Event}
use Rattle.trace_types.specs.declared.named_trace.NamedTrace.{NamedTrace}
use Rattle.trace_types.specs.declared.trace.Trace.{Trace}
use Rattle.trace_types.specs.Batch.{traces_of}
use Rattle.trace_types.proofs.ZipLemmas.{zip_length}
use Rattle.session.proofs.GivenLemmas.{length-with_taken, same_traces, too_many}
use Rattle.session.specs.SessionStates.{SessionState, Shows}
use Rattle.session.specs.AddLaws.{IsAdded, IsNamedAdd, added_text, count_with, day_text, session_after}
use Rattle.session.specs.Sheets.{AreLinesOn, graced_by}

-- ---- the text
day_told : (every workers : ℕ) (kept : List Kept) (days : List ℕ) (watched : List DayLines) → AllZip (AreLinesOn every workers kept) days watched → AreTexts IsPart (watch_parts every workers kept days) (flat_map day_text watched)
day_told every workers kept [] [] z = refl
day_told every workers kept [] (w ∷ ws) z = absurd z
day_told every workers kept (d ∷ ds) [] z = absurd z
day_told every workers kept (d ∷ ds) (w ∷ ws) z = (
  day_text w,
  flat_map day_text ws,
  record { lines = w.lines; are = z.0.lines; text = ap (λ e. flat_map (watch_row e) w.lines) z.0.same },
  day_told every workers kept ds ws z.1,
  refl,
)

abbrev parts_of : ℕ → ℕ → List Refused → List Kept → List ℕ → List Part
parts_of every workers refused kept days = Refusals refused ∷ watch_parts every workers kept days

pub told : (every workers : ℕ) (refused : List Refused) (kept : List Kept) (days : List ℕ) (watched : List DayLines) → AllZip (AreLinesOn every workers kept) days watched → AreTexts IsPart (parts_of every workers refused kept days) (added_text refused watched)
told every workers refused kept days watched z = (flat_map refused_row refused, flat_map day_text watched, refl, day_told every workers kept days watched z, refl)

module _ (grown : GrownShows) (shown : SheetsShow) (counted : DaysAreCounted) (old : SessionState) (s : State) (h : Shows old s) (wide : BookState) (valid : List Trace) (named : List NamedTrace) (sheets : List DatedSheet) (a : IsNamedAdd old wide valid named sheets) where
  same_graced : graced_by old.grace valid ≡ graced s valid
  same_graced = ap (λ g. map (kept_with (1000 * g)) valid) h.grace

  before_shown : AreShown (with_traces old.known valid) (all_traces wide.days) s.kept
  before_shown = subst (λ ds. AreShown (with_traces old.known valid) (all_traces ds) s.kept) (sym a.days) (grown old.known valid (all_traces old.book.days) s.kept a.kept h.traces)

  after_shown : AreShown (with_traces old.known valid) (all_traces (with_all wide sheets).days) (kept_after s valid)
  after_shown = subst (λ k. AreShown (with_traces old.known valid) (all_traces (with_all wide sheets).days) (with_taken s.kept k)) same_graced
      (shown (with_traces old.known valid) wide s.kept (graced_by old.grace valid) sheets named a.book before_shown a.shown a.parts)

  after_days : length wide.days + new_days wide.days sheets ≡ length (days_of (kept_after s valid))
  after_days =
      counted (with_traces old.known valid) wide s.kept (graced_by old.grace valid) sheets named a.book before_shown a.shown a.parts
      ∙ ap (λ k. length (days_of (with_taken s.kept k))) same_graced

  -- the traces of the given digest and those that are kept then
  same_count : traces_under s.given (kept_after s valid) ≡ count_with old (length valid)
  same_count =
      add_up _ _ _ _ _ _ _ (same_traces s.given old.given.table h.given.table) (length-with_taken s.kept (graced s valid)) (length-map valid (kept_with (1000 * s.grace)))
      (zip_length (IsShown old.known) (all_traces old.book.days) s.kept h.traces)
    where
      add_up : (table digest all kept graces named book : ℕ) → table ≡ digest → all ≡ kept + graces → graces ≡ named → book ≡ kept → digest + all ≡ table + (book + named)
      add_up table digest all kept graces named book e f g k = omega (arith, e, f, g, k)

  no_name_limit : (limit : NameLimit) → PassesLimit s.known valid limit → ⊥
  no_name_limit = subst (λ k. (limit : NameLimit) → PassesLimit k valid limit → ⊥) h.known a.none

  pub passes_days : (days : ℕ) → 64 < days → days ≡ length wide.days + new_days wide.days sheets → PassesLimitOf s valid (Days days)
  passes_days days many is = (no_name_limit, (let e = after_days in omega (arith, e, many, is)), is ∙ after_days)

  pub passes_traces : HasRoomFor wide sheets → 2 ^ 64 ≤ count_with old (length valid) → PassesLimitOf s valid Traces
  passes_traces room many = (no_name_limit, (let e = after_days in omega (arith, e, room)), subst (λ (n : ℕ). 2 ^ 64 ≤ n) (sym same_count) many)

module _ (grown : GrownShows) (shown : SheetsShow) (counted : DaysAreCounted) (old : SessionState) (s : State) (h : Shows old s) (wide : BookState) (valid : List Trace) (sheets : List DatedSheet) (watched : List DayLines) (a : IsAdded old wide valid sheets watched) where
  abbrev batch : IsNamedAdd old wide valid a.recorded.named sheets
  batch = record { kept = a.kept; days = a.days; book = a.book; none = a.none; shown = a.recorded.shown; parts = a.recorded.parts }

  pub adds : (events : List Event) (refused : List Refused) → AreJudged (traces_of events) valid refused → HasRoomFor wide sheets → Adds old.workers events s (parts_of s.watch old.workers refused (graced s valid) a.recorded.days) (state_after s valid)
  adds events refused judged room = record {
    valid = valid;
    refused = refused;
    judged = judged;
    fits = fits;
    after = refl;
    days = a.recorded.days;
    days_are = subst (λ k. ListsExactly nat_cmp (Contains (map day_of k)) a.recorded.days) (same_graced grown shown counted old s h wide valid a.recorded.named sheets batch) a.recorded.days_are;
    printed = refl;
  }
    where
      fits : (limit : Limit) → PassesLimitOf s valid limit → ⊥
      fits (Names count) p = no_name_limit grown shown counted old s h wide valid a.recorded.named sheets batch (limits.Names count) p
      fits (Tasks count) p = no_name_limit grown shown counted old s h wide valid a.recorded.named sheets batch (limits.Tasks count) p
      fits (Days count) p = (let e = after_days grown shown counted old s h wide valid a.recorded.named sheets batch in let few = room in let many = p.1 in absurd (omega (arith, e, few, many)))
      fits Traces p = absurd (too_many (count_with old (length valid)) a.counted (subst (λ (n : ℕ). 2 ^ 64 ≤ n) (same_count grown shown counted old s h wide valid a.recorded.named sheets batch) p.2))

  pub shows_after : GrownBeginsAlike → Shows (session_after old wide valid sheets) (state_after s valid)
  shows_after begins_alike = record {
    known = ap (λ k. with_traces k valid) h.known;
    watch = h.watch;
    grace = h.grace;
    traces = after_shown grown shown counted old s h wide valid a.recorded.named sheets batch;
    given = h.given;
    begins = begins_alike s.given old.known valid a.kept h.begins;
    counted = subst (λ (n : ℕ). n < 2 ^ 64) (sym (same_count grown shown counted old s h wide valid a.recorded.named sheets batch)) a.counted;
  }
