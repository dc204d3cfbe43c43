-- Tables that were read, and what may be done with what a preface says.
use Rattle.std.specs.Prelude.{ℕ, ◌<◌, ◌^◌, List, length}
use Rattle.digest_facts.specs.Digests.{Digest}
use Rattle.digest_facts.specs.Tables.{Table}
use Rattle.digest_merging.specs.Merges.{IsGivenBy}
use Rattle.trace_types.specs.Segments.{SegmentName}
use Rattle.mystery_run.specs.Works.{PrefaceSaid}

-- they give a digest
abbrev pub AreGiven : List (Table SegmentName (List ℕ)) → Type 0
AreGiven tables = (given : Digest SegmentName (List ℕ)) × IsGivenBy tables given

-- its tables give a digest, and its claims are few
pub record IsUsable (said : PrefaceSaid) : Type 0 where
  pub given : AreGiven said.tables
  pub few : length said.claims < 2 ^ 32
