-- What is printed of digests is read again, what is read is what is printed of digests, and the
-- merge of what was read can be read: statements that laws prove.
use Rattle.std.specs.Prelude.{◌≡◌, ℕ, ◌<◌, ◌≤◌, List, [], ◌∷◌, length, map, take, All, Ok}
use Rattle.std.specs.Prelude.{None, Some}
use Rattle.std.specs.Cmp.Lexicographic.{slice_cmp}
use Rattle.std.specs.List.{flat_map}
use Rattle.std.specs.Ordering.{nat_cmp}
use Rattle.trace_types.specs.NameOrder.{name_cmp}
use Rattle.trace_types.specs.Segments.{SegmentName}
use Rattle.trace_types.specs.Parts.{Parts}
use Rattle.certificates.specs.Claims.{name_of_texts}
use Rattle.digest_facts.specs.Digests.{Digest}
use Rattle.digest_facts.specs.DigestsOfTraces.{IsDigestOf}
use Rattle.digest_facts.specs.Tables.{Table, table_of}
use Rattle.digest_facts.specs.Texts.{digest_text}
use Rattle.digest_merging.specs.Limits.{limit_passed}
use Rattle.digest_merging.specs.Merges.{IsGivenBy, merged_digest}
use Rattle.digest_reading.specs.DigestRows.{latest_day}
use Rattle.digest_reading.specs.Readings.{digests_said}
use Rattle.digest_laws.specs.ReadableDigests.{IsReadable}

-- the table of a digest by text
abbrev pub table_by_text : Digest SegmentName (List ℕ) → Table SegmentName (List ℕ)
table_by_text s = table_of name_cmp (slice_cmp nat_cmp) s

-- the texts of digests, one after another, are read as their tables
abbrev pub DigestsAreRead : Type 0
DigestsAreRead = (ss : List (Digest SegmentName (List ℕ))) → 0 < length ss → All IsReadable ss
    → digests_said (flat_map digest_text ss) ≡ Ok (map table_by_text ss)

-- the bytes are the texts of digests that can be read, one after another, and these are their tables
pub record AreTextsOfDigests (bytes : List ℕ) (us : List (Table SegmentName (List ℕ))) : Type 0
  where
    pub digests : List (Digest SegmentName (List ℕ))
    pub some : 0 < length digests
    pub readable : All IsReadable digests
    pub tables : us ≡ map table_by_text digests
    pub text : bytes ≡ flat_map digest_text digests

-- what is read is what is printed of digests
abbrev pub WhatIsReadIsDigests : Type 0
WhatIsReadIsDigests = (bytes : List ℕ) (tables : List (Table SegmentName (List ℕ)))
    → digests_said bytes ≡ Ok tables → AreTextsOfDigests bytes tables

-- tables that were read give a digest
abbrev pub WhatIsReadGivesADigest : Type 0
WhatIsReadGivesADigest = (bytes : List ℕ) (tables : List (Table SegmentName (List ℕ)))
    → digests_said bytes ≡ Ok tables
    → (given : Digest SegmentName (List ℕ)) × IsGivenBy tables given

-- the merge of two digests that can be read, which passes no limit, can be read
abbrev pub MergeIsReadable : Type 0
MergeIsReadable = (s t : Digest SegmentName (List ℕ)) → IsReadable s → IsReadable t
    → limit_passed (merged_digest s t) ≡ None → IsReadable (merged_digest s t)

-- what tables that were read give can be read, where it passes no limit
abbrev pub MergeOfAllIsReadable : Type 0
MergeOfAllIsReadable = (bytes : List ℕ) (tables : List (Table SegmentName (List ℕ)))
    (given : Digest SegmentName (List ℕ)) → digests_said bytes ≡ Ok tables
    → IsGivenBy tables given → limit_passed given ≡ None → IsReadable given

-- a text of one digest that can be read is read as its table alone
abbrev pub PrintedDigestIsRead : Type 0
PrintedDigestIsRead = (s : Digest SegmentName (List ℕ)) → IsReadable s
    → digests_said (digest_text s) ≡ Ok (table_by_text s ∷ [])

-- no byte can be left off the end of a text of one digest: what is left is no text of digests
abbrev pub CutTextsAreRefused : Type 0
CutTextsAreRefused = (s : Digest SegmentName (List ℕ)) (count : ℕ) → IsReadable s
    → count < length (digest_text s)
    → (tables : List (Table SegmentName (List ℕ)))
    → digests_said (take count (digest_text s)) ≡ Ok tables → ⊥

-- the digest of traces can be read, where the task of a segment is the first text of its name, names
-- have texts that are read as they stand, no day is later than the latest one, and it passes no limit
abbrev pub DigestOfTracesIsReadable : {A S E : Type 0} → Parts A S SegmentName (List ℕ) E → Type 0
DigestOfTracesIsReadable {A} {S} p = (day : A → ℕ) (traces : List A)
    (s : Digest SegmentName (List ℕ)) → ((x : S) → p.task x ≡ (p.name x).0)
    → IsDigestOf p day name_cmp (slice_cmp nat_cmp) traces s
    → All (λ n. name_of_texts n.0 n.1 n.2 ≡ Some n) s.names → All (λ d. d ≤ latest_day) s.days
    → limit_passed s ≡ None → IsReadable s
