use Rattle.std.proofs.Common.{◌≡◌, None, length}
use Rattle.std.specs.Prelude.{◌==◌, ◌&&◌, slice_index, slice_index_or}
use Rattle.std.specs.List.{list_any, range_with_len}
use Rattle.context_forks.specs.Forks.{callers_of}
use Rattle.context_forks.specs.Partners.{reaches_out}
use Rattle.context_forks.specs.inner.Marks.{AreMarked}
use Rattle.context_forks.proofs.marks.mark_reaching.Given as goal

-- the contexts of the calls so far that reach out are marked
abbrev pub invariant-loop-at : goal.invariant-loop-at
invariant-loop-at l = record {
  size : length l.forked ≡ length l.initial.forked;
  marked : AreMarked (λ x. list_any (λ i. slice_index l.numbers i == x && reaches_out l.calls l.grace (slice_index_or (callers_of l.calls) i None) i) (range_with_len 0 l.at)) l.initial.forked l.forked;
}
