use Rattle.std.proofs.Common.{◌<◌, ◌≤◌, ◌^◌, ◌-◌, ◌∙◌, All, arith, length, rules, sym, subst}
use Rattle.std.specs.Prelude.{nat_eq}
use Rattle.context_names.proofs.OrdinalLemmas.{ordinals_few}
use Rattle.context_names.proofs.pieces.number_heads.Goals as goal

pub add_one-requires : goal.add_one-requires
add_one-requires c =
    let few : length c.deref.result.now < 2 ^ 64 - 1 = search rules in
    let low : All (λ n. n ≤ length c.deref.result.now) c.deref_mut.result.now = subst (All (λ n. n ≤ length c.deref.result.now)) (sym (c.deref_mut.ensures.value ∙ c.in_ok-numbers.ensures)) (ordinals_few nat_eq c.deref.result.now 0) in
    λ k d lt. let one = low k d lt in omega (arith, one, few)
