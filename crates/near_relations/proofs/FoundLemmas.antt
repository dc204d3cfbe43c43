-- What is found in traces by number holds of the traces by their texts.
use Rattle.std.proofs.Common.{◌≡◌, ◌↔◌, ◌==◌, ℕ, true, List, Some, Contains, length, slice_get, subst}
use Rattle.std.specs.List.{AllZip, enumerate_from}
use Rattle.std.proofs.lemmas.Option.{slice_get_within}
use Rattle.book_laws.specs.Shown.{AreShown, IsShown}
use Rattle.evidence_laws.specs.ModelLaws.{TellsSame}
use Rattle.evidence_rules.specs.Meetings.{AreMeetingFigures}
use Rattle.evidence_rules.specs.declared.meeting.Meeting.{Meeting}
use Rattle.name_meetings.specs.Tables.{IsTableOf, TableState, figures_of}
use Rattle.segment_names.proofs.TextLemmas.{name_means, name_own}
use Rattle.segment_names.specs.Known.{Known, same_name}
use Rattle.segment_names.specs.Limits.{IsKept}
use Rattle.session_rules.specs.KeptTraces.{Kept, by_kept}
use Rattle.trace_types.proofs.ComparingLemmas.{nat_means, nat_own}
use Rattle.trace_types.proofs.MatchLemmas.{zip_map}
use Rattle.trace_types.proofs.NumberingLemmas.{numbered_once}
use Rattle.trace_types.specs.Parts.{by_number}
use Rattle.trace_types.specs.Renaming.{IsOneToOne, IsTraceRenamed}
use Rattle.trace_types.specs.Segments.{SegmentName}
use Rattle.trace_types.specs.declared.named_trace.NamedTrace.{NamedTrace}
use Rattle.near_relations.specs.NearRelations.{AreFiguresOf}
use Rattle.near_relations.proofs.MeetingLemmas.{from_alike}

same_numbers : TellsSame (λ (m n : ℕ). m == n)
same_numbers a b = (nat_means a b, λ e. subst (λ (n : ℕ). (a == n) ≡ true) e (nat_own a))

same_names : TellsSame same_name
same_names a b = (name_means a b, λ e. subst (λ (n : SegmentName). same_name a n ≡ true) e (name_own a))

module _ (known : Known) (keeps : IsKept known) (named : List NamedTrace) (kept : List Kept) (shown : AreShown known named kept)
    (matched : (xs : List SegmentName) (k : ℕ) (x : SegmentName) → Contains (enumerate_from 0 xs) (k, x) ↔ (slice_get xs k ≡ Some x)) (table : TableState) (is : IsTableOf (length known.names) named table) where
  abbrev by_names : List (ℕ × SegmentName)
  by_names = enumerate_from 0 known.names

  abbrev by_tasks : List (ℕ × List ℕ)
  by_tasks = enumerate_from 0 known.tasks

  renamed : AllZip (IsTraceRenamed by_number by_kept by_names by_tasks) named kept
  renamed = zip_map (IsShown known) (IsTraceRenamed by_number by_kept by_names by_tasks) (λ t k s. s.renamed) named kept shown

  one_names : IsOneToOne by_names
  one_names = numbered_once known.names keeps.names_differ

  pub figures_shown : AreFiguresOf known.names kept (figures_of table)
  figures_shown a b one other ea eb =
      let same = from_alike by_number by_kept by_names by_tasks one_names (λ (m n : ℕ). m == n) same_name same_numbers same_names
      a b one other ((matched known.names a one).1 ea) ((matched known.names b other).1 eb) 0 named kept renamed in
      subst (λ (ms : List Meeting). AreMeetingFigures ms (figures_of table a b)) same (is a b (slice_get_within known.names a one ea) (slice_get_within known.names b other eb))
