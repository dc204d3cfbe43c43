use Rattle.std.proofs.Common.{◌≡◌, map, take}
use Rattle.near_relations.specs.inner.Naming.{borrowed}
use Rattle.near_relations.proofs.finding.lend_all.Given as goal

-- those so far
abbrev pub invariant-traces : goal.invariant-traces
invariant-traces l = map borrowed l.lent.items ≡ take l.index l.traces
