-- When kept traces show a claim, which speaks of names, tasks and traces by their texts.
use Rattle.std.specs.Prelude.{◌≡◌, ℕ, ◌==◌, if◌then◌else◌, min, max, List, slice_get}
use Rattle.std.specs.Prelude.{Option, Some, None, option_and_then}
use Rattle.std.specs.Option.{option_zip}
use Rattle.certificates.specs.declared.claim.Claim.{Claim}
use Rattle.certificates.specs.declared.matter.Matter.{Matter}
use Rattle.certificates.specs.declared.matter.Matter.TheVariants.{Before, Exclusive, Pipe}
use Rattle.day_partitions.specs.Books.{KeptDay, traces_kept_on}
use Rattle.hypothesis_index.specs.Refuting.{Refutes}
use Rattle.hypothesis_index.specs.declared.relation.Relation as relation
use Rattle.hypothesis_index.specs.declared.relation.Relation.{Relation}
use Rattle.segment_names.specs.Known.{Known, name_number, task_number}
use Rattle.trace_types.specs.declared.named_trace.NamedTrace.{NamedTrace}

-- the numbers of the two names or tasks; none where one is not known
abbrev pub matter_numbers : Known → Matter → Option (ℕ × ℕ)
matter_numbers known (Before a b) = option_zip (name_number known a) (name_number known b)
matter_numbers known (Exclusive a b) = option_zip (name_number known a) (name_number known b)
matter_numbers known (Pipe a b) = option_zip (task_number known a) (task_number known b)

-- the relation between two numbers
abbrev pub relation_between : Matter → ℕ → ℕ → Relation
relation_between (Before a b) m n = relation.TheVariants.Before m n
relation_between (Exclusive a b) m n = relation.TheVariants.Exclusive (min m n) (max m n)
relation_between (Pipe a b) m n = relation.TheVariants.Pipe m n

-- the relation under the numbers of a catalogue, where it has both names or tasks and they differ
abbrev pub relation_of : Known → Matter → Option Relation
relation_of known matter =
    option_and_then (λ p. if p.0 == p.1 then None else Some (relation_between matter p.0 p.1))
    (matter_numbers known matter)

-- the relation has a number for each of its two, and the trace that is kept on the claim's day at
-- its index has its request and refutes the relation
pub record IsShownClaim (known : Known) (days : List KeptDay) (claim : Claim) : Type 0 where
  pub relation : Relation
  pub numbered : relation_of known claim.matter ≡ Some relation
  pub trace : NamedTrace
  pub stands : slice_get (traces_kept_on days claim.day) claim.index ≡ Some trace
  pub request : trace.request ≡ claim.request
  pub refutes : Refutes relation trace
