-- A digest stands for the traces that it is of: statements that laws prove.
use Rattle.std.specs.Prelude.{◌≡◌, ◌++◌, ℕ, List, length, Contains}
use Rattle.std.specs.Cmp.Lexicographic.{slice_cmp}
use Rattle.std.specs.Ordering.{nat_cmp}
use Rattle.digest_facts.specs.Digests.{Digest, IsInForm, empty_digest, merged}
use Rattle.session_rules.specs.GivenDigests.{IsKeptDigest, SurvivesUnder}
use Rattle.session_rules.specs.KeptTraces.{Kept, SurvivesIn}
use Rattle.session_rules.specs.ModelTexts.{traces_under}
use Rattle.trace_types.specs.NameOrder.{name_cmp}
use Rattle.trace_types.specs.Segments.{SegmentName}
use Rattle.summary_laws.specs.AlikeTexts.{JudgeAlike, PrintAlike}
use Rattle.summary_laws.specs.PlainModels.{TellFigures}

-- a given digest stands for past traces: with the kept ones it tells as many traces, the same
-- figures and the same exclusions as all of them do
pub record IsInPlaceOf (given : Digest SegmentName (List ℕ)) (past kept : List Kept) : Type 0 where
  pub count : traces_under given kept ≡ length (past ++ kept)
  pub figures : TellFigures given kept (past ++ kept)
  pub judged : JudgeAlike (SurvivesUnder given kept) (SurvivesIn (past ++ kept))
  pub printed : PrintAlike given kept empty_digest (past ++ kept)

-- what is printed under the digest of past traces is what is printed of the past and the kept ones,
-- where nothing is given, and the kept ones are judged by all
abbrev pub DigestStandsForTraces : Type 0
DigestStandsForTraces = (past kept : List Kept) (digest : Digest SegmentName (List ℕ))
    → IsKeptDigest past digest → IsInPlaceOf digest past kept

-- beside another digest too: to merge the digest of past traces into what is given is to keep them
abbrev pub MergedDigestStandsForTraces : Type 0
MergedDigestStandsForTraces = (given digest : Digest SegmentName (List ℕ))
    (past kept : List Kept) → IsInForm name_cmp (slice_cmp nat_cmp) given → IsKeptDigest past digest
    → PrintAlike (merged name_cmp (slice_cmp nat_cmp) given digest) kept given (past ++ kept)
    × JudgeAlike (SurvivesUnder (merged name_cmp (slice_cmp nat_cmp) given digest) kept)
    (SurvivesUnder given (past ++ kept))

-- where the given digest has the kept traces already, their relations and exclusions are those of
-- all its traces: the count of traces alone tells them twice
abbrev pub OwnTracesChangeNothing : Type 0
OwnTracesChangeNothing = (whole kept : List Kept) (digest : Digest SegmentName (List ℕ))
    → IsKeptDigest whole digest → ((k : Kept) → Contains kept k → Contains whole k)
    → TellFigures digest kept whole
    × JudgeAlike (SurvivesUnder digest kept) (SurvivesIn whole)
