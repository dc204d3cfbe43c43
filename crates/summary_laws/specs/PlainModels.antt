-- The figures of a model by traces alone, where nothing is given, and their digest: statements that
-- laws prove.
use Rattle.std.specs.Prelude.{◌≡◌, ◌↔◌, ℕ, List, length, map}
use Rattle.std.specs.Cmp.Lexicographic.{slice_cmp}
use Rattle.std.specs.Ordering.{nat_cmp}
use Rattle.digest_facts.specs.Digests.{Digest, empty_digest}
use Rattle.digest_facts.specs.Texts.{digest_text}
use Rattle.session_rules.specs.DigestTexts.{IsDigestText}
use Rattle.session_rules.specs.GivenDigests.{IsKeptDigest, SurvivesUnder}
use Rattle.session_rules.specs.KeptTraces.{Kept, SurvivesIn, by_kept, day_of}
use Rattle.session_rules.specs.ModelTexts.{AreModelFigures, Figures, traces_under}
use Rattle.trace_rules.specs.Pipes.{IsPipeline}
use Rattle.trace_types.specs.Listing.{CountsDistinct, ListsExactly}
use Rattle.trace_types.specs.NameOrder.{name_cmp, pair_cmp}
use Rattle.trace_types.specs.Parts.{segments_of}
use Rattle.trace_types.specs.Relations.{ExcludesUnordered, HappensBefore}
use Rattle.trace_types.specs.Segments.{SegmentName, name_of, task_of}
use Rattle.summary_laws.specs.AlikeTexts.{JudgeAlike}

-- these are the figures of the traces: their relations are those that none of the traces refutes
pub record ArePlainFigures (kept : List Kept) (figures : Figures) : Type 0 where
  pub days : CountsDistinct figures.days (map day_of kept)
  pub names : CountsDistinct figures.names (map name_of (segments_of by_kept kept))
  pub tasks : CountsDistinct figures.tasks (map task_of (segments_of by_kept kept))
  pub hb : ListsExactly (pair_cmp name_cmp)
      (λ pair. HappensBefore by_kept kept pair.0 pair.1) figures.hb
  pub mx : ListsExactly (pair_cmp name_cmp)
      (λ pair. ExcludesUnordered by_kept name_cmp kept pair.0 pair.1) figures.mx
  pub pipe : ListsExactly (pair_cmp (slice_cmp nat_cmp))
      (λ pair. IsPipeline by_kept kept pair.0 pair.1) figures.pipe

-- the figures under this digest of these kept traces are the figures of those others
abbrev pub TellFigures : Digest SegmentName (List ℕ) → List Kept → List Kept → Type 0
TellFigures given kept others =
    (figures : Figures) → AreModelFigures given kept figures ↔ ArePlainFigures others figures

-- where nothing is given, kept traces are judged by themselves: so are their model, with their
-- number, their digest and their graphs
pub record IsJudgedAlone (kept : List Kept) : Type 0 where
  pub count : traces_under empty_digest kept ≡ length kept
  pub figures : TellFigures empty_digest kept kept
  pub judged : JudgeAlike (SurvivesUnder empty_digest kept) (SurvivesIn kept)
  pub digests : (digest : Digest SegmentName (List ℕ)) → IsKeptDigest kept digest
      → IsDigestText empty_digest kept (digest_text digest)

-- kept traces have a digest
abbrev pub TracesHaveADigest : Type 0
TracesHaveADigest =
    (kept : List Kept) → (digest : Digest SegmentName (List ℕ)) × IsKeptDigest kept digest

-- what is printed where nothing is given is what is printed of the kept traces
abbrev pub NothingGivenChangesNothing : Type 0
NothingGivenChangesNothing = (kept : List Kept) → IsJudgedAlone kept
