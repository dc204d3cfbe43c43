use Rattle.std.proofs.Common.{◌≡◌, ◌+◌, ◌*◌, ◌<◌, ◌≤◌, ℕ, true, ◌||◌, length, get_or, take}
use Rattle.std.specs.List.{list_any}
use Rattle.hypothesis_index.specs.Places.{pairs_below}
use Rattle.refute_tests.specs.inner.Hits.{clears_with, hits, word_of}
use Rattle.trace_types.specs.declared.named_segment.NamedSegment.{NamedSegment}
use Rattle.word_rows.specs.Rows.{below, clears}
use Rattle.refute_tests.proofs.segments.clear_below.Given as goal

abbrev pub invariant-loop-other : goal.invariant-loop-other
invariant-loop-other l = record {
  cleared : (i b : ℕ) → clears_with l.maker l.word l.mask i b ≡ (clears l.fn.maker i b || list_any (λ s. hits l.grace s l.segment i b) (take l.other-index l.before));
  no_later : below (l.word + 1) l.maker ≡ true;
  next : (d : NamedSegment) → l.other-index < length l.before → l.word ≤ word_of (get_or l.before l.other-index d).name l.segment.name;
  within : 16 * l.word < 2016 + pairs_below l.segment.name + l.segment.name;
}
