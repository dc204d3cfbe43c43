use Rattle.std.proofs.Common.{◌≡◌, ◌+◌, ◌&&◌, ℕ, take}
use Rattle.std.specs.List.{list_any}
use Rattle.trace_quality.specs.Measures.{one_if}
use Rattle.trace_groups.specs.inner.Counts.{count_in}
use Rattle.trace_groups.specs.inner.Names.{is_name}
use Rattle.trace_groups.proofs.counts.count_trace.Given as goal

-- the names so far are counted
abbrev pub invariant-names : goal.invariant-names
invariant-names l = (row : (ℕ × ℕ) × (ℕ × ℕ)) → count_in l.counts row ≡ count_in l.initial.counts row + one_if (is_name l.begin row.0 && list_any (is_name row.1) (take l.index l.names))
