-- The parts of a session's text. What a part is told over stands in it; its text is a relation.
use Rattle.std.specs.Prelude.{◌≡◌, ℕ, Bool, List, [], ◌∷◌, codes, decimal}
use Rattle.certificates.specs.declared.matter.Matter.{Matter}
use Rattle.std.specs.List.{flat_map}
use Rattle.segment_cut.specs.Faults.{fault_reason, fault_number}
use Rattle.digest_facts.specs.Digests.{Digest}
use Rattle.text_rows.specs.Rows.{figure, row_of}
use Rattle.trace_rules.specs.declared.watch_line.WatchLine.{WatchLine}
use Rattle.trace_types.specs.Segments.{SegmentName}
use Rattle.session_rules.specs.declared.named_change.NamedChange.{NamedChange}
use Rattle.session_rules.specs.declared.refused.Refused.{Refused}
use Rattle.evidence_rules.specs.declared.choice.Choice.{Choice}
use Rattle.session_rules.specs.CertificateTexts.{IsRefutedText, verdict_row, why_row}
use Rattle.session_rules.specs.DigestTexts.{IsDigestText}
use Rattle.session_rules.specs.EvidenceTexts.{IsEvidenceText}
use Rattle.session_rules.specs.ForecastTexts.{IsForecastHead, IsForecastText}
use Rattle.session_rules.specs.GivenDigests.{SurvivesUnder}
use Rattle.session_rules.specs.KeptTraces.{Kept, by_kept}
use Rattle.session_rules.specs.ModelTexts.{IsModelHead, IsModelText}
use Rattle.session_rules.specs.ReportTexts.{IsLatencyText, IsReportHead, IsSegmentText}
use Rattle.session_rules.specs.TailTexts.{IsTailHead, IsTailText}
use Rattle.session_rules.specs.TraceTexts.{IsGraphText, IsPathText, IsSlackText}
use Rattle.trace_rules.specs.WatchLines.{AreWatchLines}

-- a part of a text. What is judged by traces that are not at hand too, those that a given digest
-- stands for, has this digest before the kept traces
pub data Part : Type 0 where
  -- the refused traces of a batch
  Refusals : List Refused → Part
  -- the watch lines of the traces of one day of a batch: every so many, so many workers, the day
  Watched : ℕ → ℕ → ℕ → List Kept → Part
  -- a day was dropped, or all but the newest so many days: how many traces
  Dropped : ℕ → ℕ → Part
  KeptNewest : ℕ → ℕ → Part
  -- the model
  ModelOf : Digest SegmentName (List ℕ) → List Kept → Part
  -- the digest
  DigestOf : Digest SegmentName (List ℕ) → List Kept → Part
  -- a word and the number of the kept traces
  Header : List ℕ → ℕ → Part
  -- of one of the kept traces: its critical path, its slacks, its graph
  PathOf : Digest SegmentName (List ℕ) → List Kept → Kept → Part
  SlacksOf : Digest SegmentName (List ℕ) → List Kept → Kept → Part
  GraphOf : Digest SegmentName (List ℕ) → List Kept → Kept → Part
  -- the first row of the model; of the report on the kept traces the header, the row of their
  -- latencies, and the row of a name
  ModelHead : Digest SegmentName (List ℕ) → List Kept → Part
  ReportHead : Digest SegmentName (List ℕ) → List Kept → Part
  LatenciesOf : List Kept → Part
  SegmentOf : Digest SegmentName (List ℕ) → List Kept → SegmentName → Part
  -- of the report on the slowest of them: the header, and the row of a name
  TailHead : List Kept → Part
  TailOf : Digest SegmentName (List ℕ) → List Kept → SegmentName → Part
  -- of a forecast: the header, and the row of one of the kept traces
  ForecastHead : NamedChange → Digest SegmentName (List ℕ) → List Kept → Part
  ForecastOf : NamedChange → Digest SegmentName (List ℕ) → List Kept → Kept → Part
  -- of a certificate: the header with the numbers of the kept traces and of the relations that they
  -- refute, and the row of such a relation
  WhyHead : ℕ → ℕ → Part
  RefutedOf : List Kept → Matter → Part
  -- of its check: whether the claim of a line is shown; how many are, and how many there are
  Verdict : Bool → ℕ → Part
  Verified : ℕ → ℕ → Part
  -- what stands behind the relations that the kept traces leave, so much of it as is chosen
  EvidenceOf : Choice → List Kept → Part

-- `refused`, the request, the reason and its number
abbrev pub refused_row : Refused → List ℕ
refused_row refused =
    row_of (codes "refused" ∷ refused.request ∷ fault_reason refused.fault
    ∷ decimal (fault_number refused.fault) ∷ [])

-- `watch`, the day, the worker, how many of its traces it had offered, and the watch number
abbrev pub watch_row : ℕ → WatchLine → List ℕ
watch_row day line =
    row_of (codes "watch" ∷ decimal day ∷ decimal line.worker ∷ decimal line.done
    ∷ decimal line.refuted ∷ [])

-- a word and two numbers
abbrev pub count_row : List ℕ → ℕ → ℕ → List ℕ
count_row word number count = row_of (word ∷ decimal number ∷ decimal count ∷ [])

-- a word and a number of traces
abbrev pub traces_row : List ℕ → ℕ → List ℕ
traces_row word count = row_of (word ∷ figure (codes "traces") count ∷ [])

-- the bytes are watch rows of the traces
pub record AreWatchRows (every workers day : ℕ) (traces : List Kept) (bytes : List ℕ) : Type 0 where
  pub lines : List WatchLine
  pub are : AreWatchLines by_kept every workers traces lines
  pub text : bytes ≡ flat_map (watch_row day) lines

-- the bytes are a text of the part: paths, slacks, graphs, reports and forecasts are by the mutual
-- exclusions that neither the given digest nor a kept trace refutes
abbrev pub IsPart : Part → List ℕ → Type 0
IsPart (Refusals refused) bytes = bytes ≡ flat_map refused_row refused
IsPart (Watched every workers day traces) bytes = AreWatchRows every workers day traces bytes
IsPart (Dropped day count) bytes = bytes ≡ count_row (codes "drop") day count
IsPart (KeptNewest days count) bytes = bytes ≡ count_row (codes "keep") days count
IsPart (ModelOf given kept) bytes = IsModelText given kept bytes
IsPart (DigestOf given kept) bytes = IsDigestText given kept bytes
IsPart (Header word count) bytes = bytes ≡ traces_row word count
IsPart (PathOf given kept k) bytes = IsPathText (SurvivesUnder given kept) k bytes
IsPart (SlacksOf given kept k) bytes = IsSlackText (SurvivesUnder given kept) k bytes
IsPart (GraphOf given kept k) bytes = IsGraphText (SurvivesUnder given kept) k bytes
IsPart (ModelHead given kept) bytes = IsModelHead given kept bytes
IsPart (ReportHead given kept) bytes = IsReportHead (SurvivesUnder given kept) kept bytes
IsPart (LatenciesOf kept) bytes = IsLatencyText kept bytes
IsPart (SegmentOf given kept name) bytes =
    IsSegmentText (SurvivesUnder given kept) kept name bytes
IsPart (TailHead kept) bytes = IsTailHead kept bytes
IsPart (TailOf given kept name) bytes = IsTailText (SurvivesUnder given kept) kept name bytes
IsPart (ForecastHead change given kept) bytes =
    IsForecastHead change (SurvivesUnder given kept) kept bytes
IsPart (ForecastOf change given kept k) bytes =
    IsForecastText change (SurvivesUnder given kept) k bytes
IsPart (WhyHead traces refuted) bytes = bytes ≡ why_row traces refuted
IsPart (RefutedOf kept matter) bytes = IsRefutedText kept matter bytes
IsPart (Verdict verdict line) bytes = bytes ≡ verdict_row verdict line
IsPart (Verified shown claims) bytes = bytes ≡ count_row (codes "verified") shown claims
IsPart (EvidenceOf choice kept) bytes = IsEvidenceText choice kept bytes
