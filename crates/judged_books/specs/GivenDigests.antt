-- What a given digest refutes, by the numbers of a catalogue that begins with its names and tasks.
use Rattle.std.specs.Prelude.{◌≡◌, ℕ, true, List, ◌++◌, length, Contains, Some, slice_get}
use Rattle.hypothesis_index.specs.Places.{width_of}
use Rattle.hypothesis_index.specs.declared.relation.Relation.{Relation}
use Rattle.hypothesis_index.specs.declared.relation.Relation.TheVariants.{Before, Exclusive, Apart}
use Rattle.hypothesis_index.specs.declared.relation.Relation.TheVariants.{Pipe, Unshared}
use Rattle.refute_tests.specs.Clearing.{ClearsExactly}
use Rattle.segment_names.specs.Known.{Known}
use Rattle.segment_names.specs.Limits.{IsKept}
use Rattle.trace_types.specs.Segments.{SegmentName}
use Rattle.word_rows.specs.Rows.{below}
use Rattle.word_rows.specs.declared.entries.Entry.{Entry}
use Rattle.digest_facts.specs.Digests.{Digest}
use Rattle.digest_facts.specs.Tables.{Table}
use Rattle.digest_merging.specs.Merges.{IsTableOf}

-- the catalogue begins with the names and the tasks of the digest, in their order
pub record BeginsWith (given : Digest SegmentName (List ℕ)) (known : Known) : Type 0 where
  pub more_names : List SegmentName
  pub more_tasks : List (List ℕ)
  pub names : known.names ≡ given.names ++ more_names
  pub tasks : known.tasks ≡ given.tasks ++ more_tasks

-- the catalogue of exactly these names and tasks
abbrev pub known_of : Digest SegmentName (List ℕ) → Known
known_of given = record { names = given.names; tasks = given.tasks }

-- the pair of the texts with these numbers stands in a list
abbrev pub IsPairAt : {X : Type 0} → List X → List (X × X) → ℕ → ℕ → Type 0
IsPairAt {X} texts pairs i j = (x : X) × (y : X) × (slice_get texts i ≡ Some x)
    × (slice_get texts j ≡ Some y) × Contains pairs (x, y)

-- the digest lists the relation of two names or two tasks with these numbers: some of its traces
-- refutes it
abbrev pub IsListed : Known → Digest SegmentName (List ℕ) → Relation → Type 0
IsListed known given (Before a b) = IsPairAt known.names given.before a b
IsListed known given (Exclusive a b) = IsPairAt known.names given.exclusive a b
IsListed known given (Apart a b) = IsPairAt known.names given.together a b
IsListed known given (Pipe t u) = IsPairAt known.tasks given.pipe t u
IsListed known given (Unshared t u) = IsPairAt known.tasks given.shared t u

-- what a contract sees of a given digest in memory: its table, and the row of the bits that it clears
pub record GivenState : Type 0 where
  pub table : Table SegmentName (List ℕ)
  pub row : List Entry

-- it is this digest: the table is that of the digest, and in each catalogue that begins with its names
-- and tasks the row clears exactly the bits of the relations that it lists
pub record IsGivenOf (given : Digest SegmentName (List ℕ)) (g : GivenState) : Type 0 where
  pub table : IsTableOf given g.table
  pub within : below (width_of (length given.names)) g.row ≡ true
  pub clears : (known : Known) → IsKept known → BeginsWith given known
      → ClearsExactly g.row (IsListed known given)
