-- The critical paths of kept traces, by those of traces by number.
use Rattle.std.proofs.Common.{◌≡◌, ◌↔◌, ℕ, Some, List, [], ◌∷◌}
use Rattle.std.specs.List.{AllZip, Contains, enumerate_from, slice_get}
use Rattle.digest_facts.specs.Digests.{Digest}
use Rattle.judged_books.specs.JudgedLaws.{AreJudgedWords, JudgedGraphIsShown}
use Rattle.model_meet.specs.RelationBits.{KeepsExclusion}
use Rattle.book_laws.specs.Shown.{AreShown, IsShown}
use Rattle.segment_names.specs.Known.{Known}
use Rattle.segment_names.specs.Limits.{IsKept}
use Rattle.session_rules.specs.GivenDigests.{SurvivesUnder}
use Rattle.session_rules.specs.KeptTraces.{Kept, by_kept}
use Rattle.trace_rules.specs.CriticalPaths.{AreCriticalPaths, IsCriticalPath, StandsFor}
use Rattle.trace_types.specs.declared.named_segment.NamedSegment.{NamedSegment}
use Rattle.trace_types.specs.declared.named_trace.NamedTrace.{NamedTrace}
use Rattle.trace_types.specs.declared.segment.Segment.{Segment}
use Rattle.trace_types.specs.NamedSegments.{number_of_name}
use Rattle.trace_types.specs.Parts.{by_number, segments_of}
use Rattle.trace_types.specs.Renaming.{IsSegmentRenamed}
use Rattle.trace_types.specs.Segments.{SegmentName, name_of}
use Rattle.trace_types.proofs.MatchLemmas.{zip_map}
use Rattle.view_rows.specs.inner.ShownPaths.{ArePathsShown, AreSegmentsShown, IsSegmentShown}
use Rattle.view_rows.proofs.ReportZipLemmas.{zip_get, zip_join}

-- the numbers of names stand for what stands at them
abbrev pub IsMatched : List SegmentName → Type 0
IsMatched names = (k : ℕ) (name : SegmentName) → Contains (enumerate_from 0 names) (k, name) ↔ (slice_get names k ≡ Some name)

-- what vertices stand for in two lists that are alike
stand_for : {S X : Type 0} (R : S → X → Type 0) (segments : List S) (others : List X) → AllZip R segments others → (order chain : List ℕ) (path : List S) → AllZip (StandsFor segments order) chain path
    → (text : List X) × AllZip (StandsFor others order) chain text × AllZip R path text
stand_for R segments others alike order [] [] z = ([], tt, tt)
stand_for R segments others alike order [] (s ∷ path) z = absurd z
stand_for R segments others alike order (v ∷ chain) [] z = absurd z
stand_for R segments others alike order (v ∷ chain) (s ∷ path) z =
    let at = zip_get R segments others alike z.0.0 s z.0.2 in
    let rest = stand_for R segments others alike order chain path z.1 in
    (at.0 ∷ rest.0, ((z.0.0, z.0.1, at.1), rest.1), (at.2, rest.2))

module _ (known : Known) (matched : IsMatched known.names) where
  -- the segments of a trace show those of the kept trace
  pub segments_shown : (t : NamedTrace) (k : Kept) → IsShown known t k → AreSegmentsShown known t.segments k.trace.segments
  segments_shown t k shown = zip_map (IsSegmentRenamed by_number by_kept (enumerate_from 0 known.names) (enumerate_from 0 known.tasks) shown.renamed.elements) (IsSegmentShown known)
      (λ s x r. record { name = (matched (number_of_name s) (name_of x)).0 r.name; start = r.start; end = r.end }) t.segments k.trace.segments shown.renamed.segments

  -- and so those of all traces
  pub all_segments_shown : (traces : List NamedTrace) (kept : List Kept) → AreShown known traces kept → AreSegmentsShown known (segments_of by_number traces) (segments_of by_kept kept)
  all_segments_shown traces kept shown = zip_join (IsSegmentShown known) (IsShown known) (λ (t : NamedTrace). t.segments) (λ (k : Kept). k.trace.segments) segments_shown traces kept shown

  module _ (graphs : JudgedGraphIsShown) (fits : IsKept known) (given : Digest SegmentName (List ℕ)) (words : List ℕ) (traces : List NamedTrace) (kept : List Kept) (shown : AreShown known traces kept) (judge : AreJudgedWords known given kept words) where
    -- the critical path of one trace
    path_shown : (t : NamedTrace) (k : Kept) (path : List NamedSegment) → IsShown known t k → IsCriticalPath by_number (KeepsExclusion words) t path → (text : List Segment) × IsCriticalPath by_kept (SurvivesUnder given kept) k text × AreSegmentsShown known path text
    path_shown t k path one is =
        let g = graphs known given kept words t k is.order is.graph fits judge one is.form is.dependencies in
        let stands = stand_for (IsSegmentShown known) t.segments k.trace.segments (segments_shown t k one) is.order is.chain path is.segments in (
          stands.0,
          record {
            order = is.order;
            graph = is.graph;
            chain = is.chain;
            form = g.keeps;
            dependencies = g.of_trace;
            longest = is.longest;
            first = is.first;
            segments = stands.1;
          },
          stands.2,
        )

    -- those of some of the traces
    some_shown : (some : List NamedTrace) (others : List Kept) (paths : List (List NamedSegment)) → AreShown known some others → AllZip (IsCriticalPath by_number (KeepsExclusion words)) some paths
        → (texts : List (List Segment)) × AllZip (IsCriticalPath by_kept (SurvivesUnder given kept)) others texts × ArePathsShown known paths texts
    some_shown [] [] [] alike are = ([], tt, tt)
    some_shown [] [] (path ∷ paths) alike are = absurd are
    some_shown [] (k ∷ others) paths alike are = absurd alike
    some_shown (t ∷ some) [] paths alike are = absurd alike
    some_shown (t ∷ some) (k ∷ others) [] alike are = absurd are
    some_shown (t ∷ some) (k ∷ others) (path ∷ paths) alike are =
        let one = path_shown t k path alike.0 are.0 in
        let rest = some_shown some others paths alike.1 are.1 in
        (one.0 ∷ rest.0, (one.1, rest.1), (one.2, rest.2))

    pub paths_shown : (paths : List (List NamedSegment)) → AreCriticalPaths by_number (KeepsExclusion words) traces paths → (texts : List (List Segment)) × AreCriticalPaths by_kept (SurvivesUnder given kept) kept texts × ArePathsShown known paths texts
    paths_shown paths are = some_shown traces kept paths shown are
