use Rattle.std.proofs.Common.{◌≡◌, ◌≤◌, ◌<◌, ◌-◌, ℕ, length, get_or, map, take, vec_len}
use Rattle.std.specs.declared.vec.Vec.{Vec}
use Rattle.trace_rules.specs.Numbers.{AreFigures}
use Rattle.trace_paths.specs.Tables.{list_at}
use Rattle.trace_rules.specs.declared.figures.Figures.{Figures}
use Rattle.latency_report.proofs.RowLemmas.{shown}
use Rattle.latency_report.proofs.rows.measure_each.Given as goal

abbrev pub invariant-lists : goal.invariant-lists
invariant-lists l = record {
  few : length l.lists.items ≤ length l.fn.table;
  left : shown l.lists.items ≡ take (length l.lists.items) l.fn.table;
  count : length l.figures.items ≡ length l.fn.table;
  done : (n : ℕ) (d : Figures) → length l.lists.items ≤ n → n < length l.fn.table → AreFigures (list_at l.fn.table n) (get_or l.figures.items n d);
}

abbrev pub decreases-lists : goal.decreases-lists
decreases-lists l = vec_len l.lists
