use Rattle.std.proofs.Common.{◌≡◌, ◌+◌, ◌<◌, ℕ, true, ◌||◌, length, get_or, All}
use Rattle.hypothesis_index.specs.Places.{width_of}
use Rattle.refute_tests.specs.inner.Hits.{row_start, all_hits}
use Rattle.trace_types.specs.declared.named_segment.NamedSegment.{NamedSegment}
use Rattle.word_rows.specs.Rows.{below, clears}
use Rattle.refute_tests.proofs.segments.clear_by_pairs.Given as goal

abbrev pub invariant-loop-index : goal.invariant-loop-index
invariant-loop-index l = record {
  cleared : (i b : ℕ) → clears l.maker i b ≡ (clears l.fn.maker i b || all_hits l.grace l.segments l.index i b);
  next : (d : NamedSegment) → l.index < length l.segments → below (row_start (get_or l.segments l.index d).name + 1) l.maker ≡ true;
  fits : (n : ℕ) → All (λ (s : NamedSegment). s.name < n) l.segments → below (width_of n) l.maker ≡ true;
}
