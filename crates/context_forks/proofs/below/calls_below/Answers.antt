use Rattle.std.proofs.Common.{◌∙◌, ◌≡◌, ◌<◌, All, ap, length, subst, sym}
use Rattle.std.specs.List.{range_with_len}
use Rattle.context_forks.proofs.SiblingLemmas.{AreCallers, are_callers, callers_size, numbers_within}
use Rattle.context_forks.proofs.below.calls_below.Goals as goal

pub group_below-requires-clause-within : goal.group_below-requires-clause-within
group_below-requires-clause-within c =
    let size : length c.args.calls.now ≡ length c.deref.result.now = sym (ap length (c.deref.ensures.value ∙ c.in_ok-callers.ensures) ∙ callers_size c.args.calls.now) in
    subst (All (λ j. j < length c.deref.result.now)) (sym (c.deref-2.ensures.value ∙ c.in_ok-order.ensures))
    (subst (λ n. All (λ j. j < n) (range_with_len 0 (length c.args.calls.now))) size (numbers_within (length c.args.calls.now)))

pub group_below-requires-clause-above : goal.group_below-requires-clause-above
group_below-requires-clause-above c = subst AreCallers (sym (c.deref.ensures.value ∙ c.in_ok-callers.ensures)) (are_callers c.args.calls.now c.requires)
