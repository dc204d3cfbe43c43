use Rattle.std.proofs.Common.{◌≤◌, map}
use Rattle.digest_facts.specs.Digests.{TellsApart}
use Rattle.digest_merging.proofs.DifferentLemmas.{CountsFirst}
use Rattle.digest_merging.proofs.different.count_different.Given as goal

-- the different ones so far, no more than these
abbrev pub invariant-items : goal.invariant-items
invariant-items g l = record {
  few : l.count ≤ l.k;
  counted : (o : TellsApart g.T.Ord.cmp) → CountsFirst g.T.Ord.cmp o (map (λ r. r.now) l.items.items) l.k l.count;
}
