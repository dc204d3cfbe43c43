use Rattle.std.proofs.Common.{◌≡◌, ℕ, ◌<◌, ◌≤◌, ◌&&◌, ◌||◌, ◌==◌, Bool, true, get_or, take}
use Rattle.refute_tests.specs.inner.Marks.{early_by, has_mark, is_named}
use Rattle.trace_types.specs.declared.named_segment.NamedSegment.{NamedSegment}
use Rattle.refute_tests.proofs.merging.mark_early.Given as goal

abbrev pub invariant-loop-index : goal.invariant-loop-index
invariant-loop-index l = record {
  early : (k : ℕ) (d : NamedSegment) → l.from ≤ k → k < l.index → early_by l.forward l.grace (get_or l.candidates k d) l.segment ≡ true;
  marked : (first : ℕ → ℕ → Bool) → ((n c : ℕ) → c < 4 → has_mark l.fn.marks n c ≡ (first n c || ((c == 0) && is_named (take l.from l.candidates) n)))
      → (n c : ℕ) → c < 4 → has_mark l.marks n c ≡ (first n c || ((c == 0) && is_named (take l.index l.candidates) n));
}
