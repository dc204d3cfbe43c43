use Rattle.std.proofs.Common.{rules, IsPermutation}
use Rattle.std.proofs.lemmas.List.Sorted.{IsNonDecreasingBy-from_sort_by_key}
use Rattle.trace_types.specs.declared.named_segment.NamedSegment.{NamedSegment}
use Rattle.refute_tests.proofs.NameLemmas.{names_rise}
use Rattle.refute_tests.proofs.sorting.sort_by_name.Goals as goal

pub returns-clause-rising : goal.returns-clause-rising
returns-clause-rising c = let p : IsPermutation c.args.trace.now.segments c.sort_unstable_by_key.new.self.items = search rules in
    names_rise c.args.trace.now.segments c.sort_unstable_by_key.new.self.items c.args.trace.now.names_differ p
    (IsNonDecreasingBy-from_sort_by_key (λ (s : NamedSegment). s.name) _ c.sort_unstable_by_key.ensures.sorted (λ a r q k. search rules))
