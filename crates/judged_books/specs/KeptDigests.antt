-- The digest of kept traces.
use Rattle.std.specs.Prelude.{ℕ, List}
use Rattle.session_rules.specs.GivenDigests.{IsKeptDigest}
use Rattle.session_rules.specs.KeptTraces.{Kept}
use Rattle.trace_types.specs.Segments.{SegmentName}
use Rattle.digest_facts.specs.Digests.{Digest}
use Rattle.digest_facts.specs.Tables.{Table}
use Rattle.digest_merging.specs.Merges.{IsTableOf, merged_digest}

-- the table of the digest of the kept traces
pub record IsKeptTable (kept : List Kept) (u : Table SegmentName (List ℕ)) : Type 0 where
  pub digest : Digest SegmentName (List ℕ)
  pub is : IsKeptDigest kept digest
  pub table : IsTableOf digest u

-- the table of the given digest and the digest of the kept traces, merged
pub record IsJudgedTable (given : Digest SegmentName (List ℕ)) (kept : List Kept)
    (u : Table SegmentName (List ℕ)) : Type 0 where
  pub digest : Digest SegmentName (List ℕ)
  pub is : IsKeptDigest kept digest
  pub table : IsTableOf (merged_digest given digest) u
