-- How long segments last, by number and by text.
use Rattle.std.proofs.Common.{◌≡◌, ◌≢◌, ℕ, ◌<◌, true, false, eqb, Some, List, length, sym, ap, ◌∙◌, subst, ⊎_elim}
use Rattle.std.specs.Prelude.{◌-ℤ◌, unsigned_abs, filter, sum, sum_by}
use Rattle.std.specs.List.{AllPairs}
use Rattle.std.proofs.lemmas.Bool.{false_from_ne_true}
use Rattle.std.proofs.lemmas.Bool.Decides.{eqb_tells}
use Rattle.std.proofs.lemmas.Option.{get_or_from_slice_get, slice_get-get_or}
use Rattle.segment_names.specs.Known.{Known, same_name}
use Rattle.session_rules.specs.KeptTraces.{by_kept}
use Rattle.trace_rules.specs.Durations.{duration, durations_of, has_name, path_length, paths_with, time_on}
use Rattle.trace_paths.specs.NameOrders.{name_with_number}
use Rattle.trace_types.specs.declared.named_segment.NamedSegment.{NamedSegment}
use Rattle.trace_types.specs.declared.segment.Segment.{Segment}
use Rattle.trace_types.specs.NamedSegments.{named_start, number_of_name}
use Rattle.trace_types.specs.Parts.{by_number}
use Rattle.trace_types.specs.Segments.{SegmentName, end_of, name_of}
use Rattle.segment_names.proofs.TextLemmas.{name_means, name_own}
use Rattle.trace_types.proofs.ElementLemmas.{one_place}
use Rattle.trace_types.proofs.ZipLemmas.{zip_mapped}
use Rattle.view_rows.specs.inner.ShownPaths.{ArePathsShown, AreSegmentsShown, IsSegmentShown}
use Rattle.view_rows.proofs.ReportZipLemmas.{zip_any, zip_count, zip_filter, zip_sum}

-- ---- names
module _ (known : Known) where
  -- the name at the number of a segment is its name
  pub name_shown : (s : NamedSegment) (x : Segment) → IsSegmentShown known s x → name_with_number known.names (number_of_name s) ≡ name_of x
  name_shown s x shown = get_or_from_slice_get known.names (number_of_name s) (name_of x) _ shown.name

  -- ---- durations
  lasts_shown : (s : NamedSegment) (x : Segment) → IsSegmentShown known s x → duration by_number s ≡ duration by_kept x
  lasts_shown s x shown = ap (λ e. unsigned_abs (e -ℤ named_start s)) (sym shown.end) ∙ ap (λ b. unsigned_abs (end_of x -ℤ b)) (sym shown.start)

  length_shown : (path : List NamedSegment) (text : List Segment) → AreSegmentsShown known path text → path_length by_number path ≡ path_length by_kept text
  length_shown path text shown = zip_sum (IsSegmentShown known) (duration by_number) (duration by_kept) lasts_shown path text shown

  pub lengths_shown : (paths : List (List NamedSegment)) (texts : List (List Segment)) → ArePathsShown known paths texts → sum_by (path_length by_number) paths ≡ sum_by (path_length by_kept) texts
  lengths_shown paths texts shown = zip_sum (λ path text. AreSegmentsShown known path text) (path_length by_number) (path_length by_kept) length_shown paths texts shown

  -- ---- the segments of one name
  module _ (differ : AllPairs (λ x y. x ≢ y) known.names) (n : ℕ) (lt : n < length known.names) where
    test_shown : (s : NamedSegment) (x : Segment) → IsSegmentShown known s x → eqb (number_of_name s) n ≡ same_name (name_of x) (name_with_number known.names n)
    test_shown s x shown = ⊎_elim
        (λ (yes : (eqb (number_of_name s) n ≡ true) × (number_of_name s ≡ n)).
        yes.0 ∙ sym (subst (λ (m : SegmentName). same_name (name_of x) m ≡ true) (sym (name_shown s x shown) ∙ ap (name_with_number known.names) yes.1) (name_own (name_of x))))
        (λ (no : (eqb (number_of_name s) n ≡ false) × (number_of_name s ≢ n)).
        no.0 ∙ sym (false_from_ne_true (same_name (name_of x) (name_with_number known.names n)) (λ t.
        no.1 (one_place known.names differ (number_of_name s) n (name_of x) shown.name (slice_get-get_or known.names n _ lt ∙ ap Some (sym (name_means (name_of x) (name_with_number known.names n) t)))))))
        (eqb_tells (number_of_name s) n)

    pub durations_shown : (path : List NamedSegment) (text : List Segment) → AreSegmentsShown known path text → durations_of by_number eqb n path ≡ durations_of by_kept same_name (name_with_number known.names n) text
    durations_shown path text shown = zip_mapped (IsSegmentShown known) (duration by_number) (duration by_kept) lasts_shown (filter (λ s. eqb (number_of_name s) n) path) (filter (λ x. same_name (name_of x) (name_with_number known.names n)) text)
        (zip_filter (IsSegmentShown known) (λ s. eqb (number_of_name s) n) (λ x. same_name (name_of x) (name_with_number known.names n)) test_shown path text shown)

    pub counts_shown : (paths : List (List NamedSegment)) (texts : List (List Segment)) → ArePathsShown known paths texts → paths_with by_number eqb n paths ≡ paths_with by_kept same_name (name_with_number known.names n) texts
    counts_shown paths texts shown = zip_count (λ path text. AreSegmentsShown known path text) (has_name by_number eqb n) (has_name by_kept same_name (name_with_number known.names n))
        (λ path text alike. zip_any (IsSegmentShown known) (λ s. eqb (number_of_name s) n) (λ x. same_name (name_of x) (name_with_number known.names n)) test_shown path text alike) paths texts shown

    pub times_shown : (paths : List (List NamedSegment)) (texts : List (List Segment)) → ArePathsShown known paths texts → time_on by_number eqb n paths ≡ time_on by_kept same_name (name_with_number known.names n) texts
    times_shown paths texts shown = zip_sum (λ path text. AreSegmentsShown known path text) (λ path. sum (durations_of by_number eqb n path)) (λ text. sum (durations_of by_kept same_name (name_with_number known.names n) text))
        (λ path text alike. ap sum (durations_shown path text alike)) paths texts shown
