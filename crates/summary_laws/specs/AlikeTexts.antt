-- When two ways to judge traces print the same.
use Rattle.std.specs.Prelude.{◌↔◌, ℕ, List}
use Rattle.digest_facts.specs.Digests.{Digest}
use Rattle.session_rules.specs.DigestTexts.{IsDigestText}
use Rattle.session_rules.specs.ForecastTexts.{IsForecastHead, IsForecastText}
use Rattle.session_rules.specs.KeptTraces.{Kept}
use Rattle.session_rules.specs.ModelTexts.{IsModelHead, IsModelText}
use Rattle.session_rules.specs.ReportTexts.{IsReportHead, IsSegmentText}
use Rattle.session_rules.specs.TailTexts.{IsTailText}
use Rattle.session_rules.specs.TraceTexts.{IsGraphText, IsPathText, IsSlackText}
use Rattle.session_rules.specs.declared.named_change.NamedChange.{NamedChange}
use Rattle.trace_types.specs.Segments.{SegmentName}

-- whether the mutual exclusions in Excludes survive or those in Others, the texts are the same: of
-- the path, the slacks and the graph of each trace, and of each row of reports and forecasts
pub record JudgeAlike (Excludes Others : SegmentName → SegmentName → Type 0) : Type 0 where
  pub paths : (k : Kept) (bytes : List ℕ) → IsPathText Excludes k bytes ↔ IsPathText Others k bytes
  pub slacks :
      (k : Kept) (bytes : List ℕ) → IsSlackText Excludes k bytes ↔ IsSlackText Others k bytes
  pub graphs :
      (k : Kept) (bytes : List ℕ) → IsGraphText Excludes k bytes ↔ IsGraphText Others k bytes
  pub report_heads : (kept : List Kept) (bytes : List ℕ)
      → IsReportHead Excludes kept bytes ↔ IsReportHead Others kept bytes
  pub report_rows : (kept : List Kept) (name : SegmentName) (bytes : List ℕ)
      → IsSegmentText Excludes kept name bytes ↔ IsSegmentText Others kept name bytes
  pub tail_rows : (kept : List Kept) (name : SegmentName) (bytes : List ℕ)
      → IsTailText Excludes kept name bytes ↔ IsTailText Others kept name bytes
  pub forecast_heads : (change : NamedChange) (kept : List Kept) (bytes : List ℕ)
      → IsForecastHead change Excludes kept bytes ↔ IsForecastHead change Others kept bytes
  pub forecasts : (change : NamedChange) (k : Kept) (bytes : List ℕ)
      → IsForecastText change Excludes k bytes ↔ IsForecastText change Others k bytes

-- the model of the one given digest and its kept traces has the text of the model of the other, its
-- first row too, and so has the digest
pub record PrintAlike (given : Digest SegmentName (List ℕ)) (kept : List Kept)
    (other : Digest SegmentName (List ℕ)) (others : List Kept) : Type 0 where
  pub heads : (bytes : List ℕ) → IsModelHead given kept bytes ↔ IsModelHead other others bytes
  pub models : (bytes : List ℕ) → IsModelText given kept bytes ↔ IsModelText other others bytes
  pub digests : (bytes : List ℕ) → IsDigestText given kept bytes ↔ IsDigestText other others bytes
