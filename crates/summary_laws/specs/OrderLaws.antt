-- Neither the order of traces nor that of digests matters: statements that laws prove.
use Rattle.std.specs.Prelude.{◌≡◌, ◌↔◌, ℕ, List, length, Contains}
use Rattle.digest_facts.specs.Digests.{Digest}
use Rattle.session_rules.specs.GivenDigests.{SurvivesUnder}
use Rattle.session_rules.specs.KeptTraces.{Kept}
use Rattle.trace_types.specs.Segments.{SegmentName}
use Rattle.summary_laws.specs.AlikeTexts.{JudgeAlike, PrintAlike}

-- the same traces in another order have one model, one digest and the same exclusions
abbrev pub TracesStandInAnyOrder : Type 0
TracesStandInAnyOrder = (given : Digest SegmentName (List ℕ)) (kept others : List Kept)
    → length kept ≡ length others → ((k : Kept) → Contains kept k ↔ Contains others k)
    → PrintAlike given kept given others
    × JudgeAlike (SurvivesUnder given kept) (SurvivesUnder given others)
