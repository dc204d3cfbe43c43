-- What a merge of two tables gives, and one of a list of tables: the table of the merged digest, or
-- why there is none.
use Rattle.std.specs.Prelude.{ℕ, ◌≡◌, ◌↔◌, List, [], ◌∷◌, Contains, Some, None, ⊤}
use Rattle.std.specs.Cmp.Lexicographic.{slice_cmp}
use Rattle.std.specs.List.{AllZip}
use Rattle.std.specs.Ordering.{nat_cmp}
use Rattle.trace_types.specs.NameOrder.{name_cmp}
use Rattle.trace_types.specs.Segments.{SegmentName}
use Rattle.digest_facts.specs.Coherence.{IsCoherent}
use Rattle.digest_facts.specs.Digests.{Digest, empty_digest, merged}
use Rattle.digest_facts.specs.Tables.{Table, table_of}
use Rattle.digest_merging.specs.Limits.{limit_passed}
use Rattle.digest_merging.specs.declared.merge_fault.MergeFault.{MergeFault}
use Rattle.digest_merging.specs.declared.merge_fault.MergeFault.TheVariants.{Limit, Memory}

-- the task of some name of the list
abbrev pub IsTaskOfSome : List SegmentName → List ℕ → Type 0
IsTaskOfSome names task = (name : SegmentName) × Contains names name × (name.0 ≡ task)

-- it is the table of this digest, which is coherent, and whose tasks are those of its names
pub record IsTableOf (s : Digest SegmentName (List ℕ)) (u : Table SegmentName (List ℕ)) : Type 0
  where
    pub coherent : IsCoherent name_cmp (slice_cmp nat_cmp) s
    pub tasks : (task : List ℕ) → Contains s.tasks task ↔ IsTaskOfSome s.names task
    pub table : u ≡ table_of name_cmp (slice_cmp nat_cmp) s

-- it is the table of some digest, which passes no limit
abbrev pub IsGivenTable : Table SegmentName (List ℕ) → Type 0
IsGivenTable u =
    (s : Digest SegmentName (List ℕ)) × IsTableOf s u × (limit_passed s ≡ None)

-- the merge of two digests by text
abbrev pub merged_digest : Digest SegmentName (List ℕ) → Digest SegmentName (List ℕ)
    → Digest SegmentName (List ℕ)
merged_digest s t = merged name_cmp (slice_cmp nat_cmp) s t

-- of whatever digests the two are the tables, the third is that of their merge, which passes no
-- limit
abbrev pub IsMergeOf : Table SegmentName (List ℕ) → Table SegmentName (List ℕ)
    → Table SegmentName (List ℕ) → Type 0
IsMergeOf u v w = (s t : Digest SegmentName (List ℕ)) → IsTableOf s u → IsTableOf t v
    → IsTableOf (merged_digest s t) w × (limit_passed (merged_digest s t) ≡ None)

-- the error is that of a call that is out of memory
abbrev pub IsOutOfMemory : MergeFault → Type 0
IsOutOfMemory e = e ≡ Memory

-- why there is no merge: out of memory, or the first limit that the merged digest passes
abbrev pub IsMergeFault : Table SegmentName (List ℕ) → Table SegmentName (List ℕ) → MergeFault
    → Type 0
IsMergeFault u v Memory = ⊤
IsMergeFault u v (Limit limit) = (s t : Digest SegmentName (List ℕ)) → IsTableOf s u
    → IsTableOf t v → limit_passed (merged_digest s t) ≡ Some limit

-- the merge of all digests of a list, by text; of none the empty digest
abbrev pub merged_of : List (Digest SegmentName (List ℕ)) → Digest SegmentName (List ℕ)
merged_of [] = empty_digest
merged_of (s ∷ ss) = merged_digest s (merged_of ss)

-- it is the digest that tables give: the merge of all digests of which these are the tables
pub record IsGivenBy (us : List (Table SegmentName (List ℕ)))
    (given : Digest SegmentName (List ℕ)) : Type 0 where
  pub digests : List (Digest SegmentName (List ℕ))
  pub tables : AllZip IsTableOf digests us
  pub merge : given ≡ merged_of digests

-- of whatever digests these are the tables, the table is that of the merge of all of them, which
-- passes no limit
abbrev pub IsMergeOfAll : List (Table SegmentName (List ℕ)) → Table SegmentName (List ℕ) → Type 0
IsMergeOfAll us w = (given : Digest SegmentName (List ℕ)) → IsGivenBy us given
    → IsTableOf given w × (limit_passed given ≡ None)

-- why there is no merge of all: out of memory, or the first limit that it passes
abbrev pub IsFaultOfAll : List (Table SegmentName (List ℕ)) → MergeFault → Type 0
IsFaultOfAll us Memory = ⊤
IsFaultOfAll us (Limit limit) = (given : Digest SegmentName (List ℕ)) → IsGivenBy us given
    → limit_passed given ≡ Some limit

-- tables give one digest
abbrev pub AGivenDigestIsOne : Type 0
AGivenDigestIsOne = (us : List (Table SegmentName (List ℕ)))
    (given other : Digest SegmentName (List ℕ)) → IsGivenBy us given → IsGivenBy us other
    → given ≡ other
