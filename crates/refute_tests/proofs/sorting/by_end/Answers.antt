use Rattle.std.proofs.Common.{rules}
use Rattle.refute_tests.proofs.OrderLemmas.{rise_by_key}
use Rattle.trace_types.specs.declared.named_segment.NamedSegment.{NamedSegment}
use Rattle.refute_tests.proofs.sorting.by_end.Goals as goal

pub returns-clause-rising : goal.returns-clause-rising
returns-clause-rising c = rise_by_key (λ (s : NamedSegment). s.end) _ c.sort_unstable_by_key.ensures.sorted (λ a r q k. search rules)
