use Rattle.std.proofs.Common.{◌≡◌, ◌≤◌, ℕ, take}
use Rattle.std.specs.Prelude.{count_by}
use Rattle.trace_groups.specs.inner.Counts.{is_usual_row}
use Rattle.trace_groups.proofs.usual.count_usual.Given as goal

-- the usual ones of the names so far
abbrev pub invariant-names : goal.invariant-names
invariant-names l = record {
  counted : l.count ≡ count_by (λ (name : ℕ × ℕ). is_usual_row l.counts (l.begin, name)) (take l.index l.names);
  few : l.count ≤ l.index;
}
