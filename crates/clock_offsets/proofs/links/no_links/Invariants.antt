use Rattle.std.proofs.Common.{◌≡◌, [], replicate}
use Rattle.clock_offsets.specs.inner.Links.{links_of}
use Rattle.clock_offsets.proofs.links.no_links.Given as goal

abbrev pub invariant-loop-at : goal.invariant-loop-at
invariant-loop-at l = links_of l.links.items ≡ replicate l._at []
