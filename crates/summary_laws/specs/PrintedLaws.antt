-- What is printed of a digest can be given to a later run: statements that laws prove.
use Rattle.std.specs.Prelude.{◌≡◌, ◌≤◌, ℕ, List, [], ◌∷◌, All, None, Ok}
use Rattle.certificate_laws.specs.Printable.{HasPrintableName}
use Rattle.digest_facts.specs.Digests.{Digest}
use Rattle.digest_laws.specs.ReadableDigests.{IsReadable}
use Rattle.digest_laws.specs.ReadingLaws.{table_by_text}
use Rattle.digest_merging.specs.Limits.{limit_passed}
use Rattle.digest_merging.specs.Merges.{merged_digest}
use Rattle.digest_reading.specs.DigestRows.{latest_day}
use Rattle.digest_reading.specs.Readings.{digests_said}
use Rattle.session_rules.specs.DigestTexts.{IsDigestText}
use Rattle.session_rules.specs.KeptTraces.{Kept, day_of}
use Rattle.trace_types.specs.Segments.{SegmentName}

-- a digest may have the names of the trace's segments in its text, and its day
pub record IsPrintableTrace (k : Kept) : Type 0 where
  pub names : All HasPrintableName k.trace.segments
  pub day : day_of k ≤ latest_day

-- the text of the digest of such traces and of a given digest that can be read is read as the table
-- of both, where both together pass no limit
abbrev pub WhatSummarizePrintsIsRead : Type 0
WhatSummarizePrintsIsRead = (given : Digest SegmentName (List ℕ)) (kept : List Kept) (bytes : List ℕ)
    → IsReadable given → All IsPrintableTrace kept → (text : IsDigestText given kept bytes)
    → limit_passed (merged_digest given text.digest) ≡ None
    → IsReadable (merged_digest given text.digest)
    × (digests_said bytes ≡ Ok (table_by_text (merged_digest given text.digest) ∷ []))
