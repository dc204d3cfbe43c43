use Rattle.std.proofs.Common.{◌∙◌, ◌≡◌, ◌+◌, ◌++◌, ◌∷◌, [], List, ℕ, ap, arith, sym}
use Rattle.std.specs.List.{range_with_len}
use Rattle.call_trees.proofs.OrderLemmas.{range_more}
use Rattle.context_forks.proofs.below.all_numbers.Goals as goal

pub loop-at-preserved : goal.loop-at-preserved
loop-at-preserved c =
    let at = c.loop-at.at in
    let same : 0 + at ≡ at = omega arith in
    c.in_ok-push.ensures.items ∙ ap (λ (xs : List ℕ). xs ++ at ∷ []) c.loop-at.invariant ∙ sym (range_more 0 at ∙ ap (λ k. range_with_len 0 at ++ k ∷ []) same)
