-- The printed text of a digest of kept traces, and of those that a given digest stands for.
use Rattle.std.specs.Prelude.{◌≡◌, ℕ, List}
use Rattle.std.specs.Cmp.Lexicographic.{slice_cmp}
use Rattle.std.specs.Ordering.{nat_cmp}
use Rattle.digest_facts.specs.Digests.{Digest, merged}
use Rattle.digest_facts.specs.Texts.{digest_text}
use Rattle.trace_types.specs.NameOrder.{name_cmp}
use Rattle.trace_types.specs.Segments.{SegmentName}
use Rattle.session_rules.specs.GivenDigests.{IsKeptDigest}
use Rattle.session_rules.specs.KeptTraces.{Kept}

-- the bytes are the text of the digest of both: of the given one and that of the kept traces
pub record IsDigestText (given : Digest SegmentName (List ℕ)) (kept : List Kept) (bytes : List ℕ)
    : Type 0 where
  pub digest : Digest SegmentName (List ℕ)
  pub of_kept : IsKeptDigest kept digest
  pub text : bytes ≡ digest_text (merged name_cmp (slice_cmp nat_cmp) given digest)
