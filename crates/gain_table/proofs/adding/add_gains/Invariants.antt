use Rattle.gain_table.specs.inner.Growing.{HaveGrown}
use Rattle.gain_table.proofs.adding.add_gains.Given as goal

-- the vertices so far
abbrev pub invariant-vertices : goal.invariant-vertices
invariant-vertices l = HaveGrown l.trace l.figures l.vertex l.fn.rows l.rows
