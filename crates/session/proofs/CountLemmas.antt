-- How many traces a book has after sheets are added, or after a day is dropped.
use Rattle.std.proofs.Common.{◌≡◌, ℕ, ◌+◌, ◌*◌, ◌<◌, ◌≤◌, ◌^◌, List, [], ◌∷◌, length, All, sym, ap, ◌∙◌, subst, arith}
use Rattle.std.proofs.lemmas.List.{length-map}
use Rattle.std.proofs.lemmas.List.Sums.{sum_by-cons}
use Rattle.day_partitions.specs.Batches.{AreSheetsFor, trace_count, with_all}
use Rattle.day_partitions.specs.Books.{BookState, IsSheetOf, all_traces, with_added}
use Rattle.day_partitions.specs.declared.dated_sheet.DatedSheet.{DatedSheet}
use Rattle.batch_sheets.specs.declared.recording.DayLines.{DayLines}
use Rattle.book_laws.specs.Shown.{AreShown, IsShown}
use Rattle.segment_names.specs.Known.{Known}
use Rattle.session_rules.specs.KeptTraces.{kept_with}
use Rattle.trace_types.specs.declared.named_trace.NamedTrace.{NamedTrace}
use Rattle.trace_types.specs.declared.trace.Trace.{Trace}
use Rattle.trace_types.proofs.ZipLemmas.{zip_length}
use Rattle.day_partitions.proofs.DayLemmas.{with_count}
use Rattle.session.specs.AddLaws.{NoMoreAreSheeted}
use Rattle.session.specs.Carrying.{kept_count}
use Rattle.session.specs.SessionStates.{SessionState}
use Rattle.session.specs.inner.AddSteps.{AreNamed}
use Rattle.session.specs.Sheets.{AreSheets, graced_by}

same : (all own more rest one : ℕ) → all ≡ one + rest → one ≡ own + more → all ≡ (own + rest) + more
same all own more rest one e f = omega (arith, e, f)

along : (all mid old one rest count : ℕ) → all ≡ mid + rest → mid ≡ old + one → count ≡ one + rest → all ≡ old + count
along all mid old one rest count e f g = omega (arith, e, f, g)

-- ---- more traces of a day
abbrev sheet_long : DatedSheet → ℕ
sheet_long s = length s.sheet.traces

long_all : (b : BookState) (sheets : List DatedSheet) → length (all_traces (with_all b sheets).days) ≡ length (all_traces b.days) + trace_count sheets
long_all b [] = omega arith
long_all b (s ∷ ss) = along _ _ _ _ _ _ (long_all (with_added b s.day s.sheet.traces) ss) (with_count s.day s.sheet.traces b.days) (sum_by-cons sheet_long s ss)

-- ---- the sheets of a batch
module _ (few : NoMoreAreSheeted) (known : Known) (workers every grace : ℕ) (valid : List Trace) (sheets : List DatedSheet) (watched : List DayLines) (r : AreSheets known workers every (graced_by grace valid) sheets watched) where
  sheeted : trace_count sheets ≤ length valid
  sheeted =
      let a = few r.named sheets r.parts in
      let b = zip_length (IsShown known) r.named (graced_by grace valid) r.shown in
      let c = length-map valid (kept_with (1000 * grace)) in
      fits _ _ _ _ a b c
    where
      fits : (count named kept long : ℕ) → count ≤ named → named ≡ kept → kept ≡ long → count ≤ long
      fits count named kept long a b c = omega (arith, a, b, c)

  pub sheets_for : (b : BookState) → b.names ≡ length known.names → length (all_traces b.days) + length valid < 2 ^ 32 → AreSheetsFor b sheets
  sheets_for b names many = record {
    rising = r.parts.rising;
    each = subst (λ n. All (λ (s : DatedSheet). IsSheetOf n s.day s.sheet) sheets) (sym names) r.fit;
    counted = under _ _ _ sheeted many;
  }
    where
      under : (old count long : ℕ) → count ≤ long → old + long < 2 ^ 32 → old + count < 2 ^ 32
      under old count long a b = omega (arith, a, b)

  pub count_after : (b : BookState) → length (all_traces (with_all b sheets).days) ≤ length (all_traces b.days) + length valid
  count_after b = under _ _ _ _ (long_all b sheets) sheeted
    where
      under : (all old count long : ℕ) → all ≡ old + count → count ≤ long → all ≤ old + long
      under all old count long e l = omega (arith, e, l)

-- ---- a day dropped
-- traces that show kept ones are as many
pub shown_long : (known : Known) (named : List NamedTrace) (grace : ℕ) (valid : List Trace) → AreShown known named (graced_by grace valid) → length valid ≡ length named
shown_long known named grace valid shown = sym (zip_length (IsShown known) named (graced_by grace valid) shown ∙ length-map valid (kept_with (1000 * grace)))

-- a session whose names were added to has room for the named traces where it had for the requests
module _ (old new : SessionState) (valid : List Trace) (named : List NamedTrace) (requests : ℕ) (a : AreNamed old valid new) (shown : AreShown new.known named (graced_by new.grace valid)) (few : length valid ≤ requests) where
  same_count : kept_count new ≡ kept_count old
  same_count = ap (λ (s : SessionState). kept_count s) a.is

  pub room_for : kept_count old + requests < 2 ^ 32 → kept_count new + length named < 2 ^ 32
  room_for most = under _ _ _ _ _ same_count (shown_long new.known named new.grace valid shown) few most
    where
      under : (now was long count all : ℕ) → now ≡ was → long ≡ count → long ≤ all → was + all < 2 ^ 32 → now + count < 2 ^ 32
      under now was long count all e f l m = omega (arith, e, f, l, m)

  pub no_more_kept : (after : ℕ) → after ≤ kept_count new + length named → after ≤ kept_count old + requests
  no_more_kept after most = under _ _ _ _ _ after same_count (shown_long new.known named new.grace valid shown) few most
    where
      under : (now was long count all after : ℕ) → now ≡ was → long ≡ count → long ≤ all → after ≤ now + count → after ≤ was + all
      under now was long count all after e f l m = omega (arith, e, f, l, m)
