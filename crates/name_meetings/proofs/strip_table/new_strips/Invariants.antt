use Rattle.std.proofs.Common.{◌≡◌, All, length}
use Rattle.name_meetings.specs.inner.Noting.{AreNew}
use Rattle.name_meetings.proofs.strip_table.new_strips.Given as goal

abbrev pub invariant-strips : goal.invariant-strips
invariant-strips g l = (length l.strips.items ≡ l.made) × All (λ strip. AreNew g.G.Gap.value l.names strip.items) l.strips.items
