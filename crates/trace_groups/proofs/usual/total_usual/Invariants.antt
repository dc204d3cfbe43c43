use Rattle.std.proofs.Common.{◌≡◌, ◌&&◌, ℕ, take}
use Rattle.std.specs.Prelude.{count_by}
use Rattle.indexmap.specs.IndexMap.{keys}
use Rattle.trace_groups.specs.inner.Counts.{is_usual_row, total_in}
use Rattle.trace_groups.specs.inner.Names.{is_name}
use Rattle.trace_groups.proofs.usual.total_usual.Given as goal

-- the usual ones of the rows so far
abbrev pub invariant-counts : goal.invariant-counts
invariant-counts l = (name : ℕ × ℕ) → total_in l.totals name ≡ count_by (λ row. is_name name row.0 && is_usual_row l.counts row) (take l.index (keys l.counts))
