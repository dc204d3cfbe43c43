use Rattle.std.proofs.Common.{◌≡◌, ℕ, ◌<◌, ◌≤◌, ◌&&◌, ◌||◌, ◌==◌, true, length, get_or, take}
use Rattle.std.specs.List.{list_any}
use Rattle.refute_tests.specs.inner.Marks.{early_by, has_mark, is_named, row_marks}
use Rattle.trace_types.specs.declared.named_segment.NamedSegment.{NamedSegment}
use Rattle.refute_tests.proofs.merging.add_rows.Given as goal

abbrev pub invariant-loop-segment : goal.invariant-loop-segment
invariant-loop-segment l = record {
  within : l.count ≤ length l.candidates;
  early : (k : ℕ) (d e : NamedSegment) → k < l.count → l.segment-index < length l.rows → early_by l.forward l.grace (get_or l.candidates k d) (get_or l.rows l.segment-index e) ≡ true;
  marked : (n c : ℕ) → c < 4 → has_mark l.marked n c ≡ (has_mark l.marks n c || ((c == 0) && is_named (take l.count l.candidates) n));
  added : (p c : ℕ) → c < 4 → has_mark l.table p c ≡ (has_mark l.fn.table p c || list_any (λ t. row_marks l.forward l.grace l.candidates l.marks t p c) (take l.segment-index l.rows));
}
