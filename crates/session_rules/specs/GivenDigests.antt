-- A given digest stands for traces that are not at hand. What it and the kept traces refute.
use Rattle.std.specs.Prelude.{ℕ, List}
use Rattle.std.specs.Cmp.Lexicographic.{slice_cmp}
use Rattle.std.specs.Ordering.{nat_cmp}
use Rattle.digest_facts.specs.DigestLaws.{known_by}
use Rattle.digest_facts.specs.Digests.{Digest}
use Rattle.digest_facts.specs.DigestsOfTraces.{IsDigestOf}
use Rattle.digest_facts.specs.Facts.{Facts}
use Rattle.digest_graphs.specs.DigestGraphs.{ExcludesUnder}
use Rattle.trace_types.specs.NameOrder.{name_cmp}
use Rattle.trace_types.specs.Segments.{SegmentName}
use Rattle.session_rules.specs.KeptTraces.{Kept, by_kept, day_of}

-- what the given digest or a kept trace refutes
abbrev pub known_under : Digest SegmentName (List ℕ) → List Kept → Facts SegmentName (List ℕ)
known_under given kept = known_by by_kept day_of name_cmp (slice_cmp nat_cmp) given kept

-- the mutual exclusion of two names survives: neither the given digest nor a kept trace refutes it
abbrev pub SurvivesUnder : Digest SegmentName (List ℕ) → List Kept → SegmentName → SegmentName
    → Type 0
SurvivesUnder given kept = ExcludesUnder by_kept day_of name_cmp (slice_cmp nat_cmp) given kept

-- it is the digest of these kept traces
abbrev pub IsKeptDigest : List Kept → Digest SegmentName (List ℕ) → Type 0
IsKeptDigest kept digest = IsDigestOf by_kept day_of name_cmp (slice_cmp nat_cmp) kept digest
