-- The critical paths of kept traces, by those of the traces that a book has: statements that laws
-- prove.
use Rattle.std.specs.Prelude.{◌≡◌, ℕ, List, Some, slice_get}
use Rattle.std.specs.List.{AllZip}
use Rattle.book_laws.specs.Shown.{AreShown}
use Rattle.segment_names.specs.Known.{Known}
use Rattle.segment_names.specs.Limits.{IsKept}
use Rattle.session_rules.specs.GivenDigests.{SurvivesUnder}
use Rattle.session_rules.specs.KeptTraces.{Kept, by_kept}
use Rattle.trace_rules.specs.CriticalPaths.{AreCriticalPaths}
use Rattle.digest_facts.specs.Digests.{Digest}
use Rattle.judged_books.specs.JudgedLaws.{AreJudgedWords}
use Rattle.model_meet.specs.RelationBits.{KeepsExclusion}
use Rattle.trace_types.specs.declared.named_segment.NamedSegment.{NamedSegment}
use Rattle.trace_types.specs.declared.named_trace.NamedTrace.{NamedTrace}
use Rattle.trace_types.specs.declared.segment.Segment.{Segment}
use Rattle.trace_types.specs.NamedSegments.{named_end, named_start, number_of_name}
use Rattle.trace_types.specs.Parts.{by_number}
use Rattle.trace_types.specs.Segments.{SegmentName, end_of, name_of, start_of}

-- the segment by number has the name and the times of this one
pub record IsSegmentShown (known : Known) (s : NamedSegment) (x : Segment) : Type 0 where
  pub name : slice_get known.names (number_of_name s) ≡ Some (name_of x)
  pub start : start_of x ≡ named_start s
  pub end : end_of x ≡ named_end s

-- so have the segments of a list, in order
abbrev pub AreSegmentsShown : Known → List NamedSegment → List Segment → Type 0
AreSegmentsShown known segments others = AllZip (IsSegmentShown known) segments others

-- and those of each path of a list
abbrev pub ArePathsShown : Known → List (List NamedSegment) → List (List Segment) → Type 0
ArePathsShown known paths texts = AllZip (λ path text. AreSegmentsShown known path text) paths texts

-- the critical paths of traces by number show critical paths of the kept traces
abbrev pub PathsAreShown : Type 0
PathsAreShown = (known : Known) (given : Digest SegmentName (List ℕ)) (words : List ℕ)
    (traces : List NamedTrace) (kept : List Kept) (paths : List (List NamedSegment)) → IsKept known
    → AreShown known traces kept → AreJudgedWords known given kept words
    → AreCriticalPaths by_number (KeepsExclusion words) traces paths
    → (texts : List (List Segment))
    × AreCriticalPaths by_kept (SurvivesUnder given kept) kept texts
    × ArePathsShown known paths texts
