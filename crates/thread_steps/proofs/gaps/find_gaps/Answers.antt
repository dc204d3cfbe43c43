use Rattle.std.proofs.Common.{◌≡◌, ◌∙◌, ◌-◌, ℕ, List, [], None, Option, ap, arith, get_or, length, nat_eq, refl, reverse}
use Rattle.std.specs.Option.{option_eq}
use Rattle.std.proofs.lemmas.List.{length-reverse}
use Rattle.call_trees.specs.Ordinals.{ordinals_of}
use Rattle.thread_steps.proofs.GapLemmas.{gaps_more, length-ordinals, read_same}
use Rattle.thread_steps.proofs.gaps.find_gaps.Goals as goal

pub index-requires : goal.index-requires
index-requires c = omega (arith, c.in_ok-ordinals.ordinals.ok, c.loop-at-test.true, ap length c.in_ok-ordinals.ensures, length-ordinals (option_eq nat_eq) [] c.args.groups.now)

pub index-requires-in-loop-at : goal.index-requires-in-loop-at
index-requires-in-loop-at c =
    let same : c.in_ok-left.left.items ≡ ordinals_of (option_eq nat_eq) (reverse c.args.groups.now) = c.in_ok-left.ensures ∙ ap (λ (gs : List (Option ℕ)). ordinals_of (option_eq nat_eq) gs) (c.deref.ensures.value ∙ c.in_ok-rest.ensures) in
    omega (arith, c.in_ok-left.left.ok, c.loop-at-test.true, ap length same, length-ordinals (option_eq nat_eq) [] (reverse c.args.groups.now), length-reverse c.args.groups.now)

pub loop-at-preserved : goal.loop-at-preserved
loop-at-preserved c =
    let groups = c.args.groups.now in
    let same : c.in_ok-left.left.items ≡ ordinals_of (option_eq nat_eq) (reverse groups) = c.in_ok-left.ensures ∙ ap (λ (gs : List (Option ℕ)). ordinals_of (option_eq nat_eq) gs) (c.deref.ensures.value ∙ c.in_ok-rest.ensures) in
    gaps_more groups c.loop-at.gaps.items c.loop-at.at c.push.new.self.items (get_or groups c.loop-at.at None) c.index.result.now c.index-in-loop-at.result.now c.gap_of.result c.loop-at-test.true refl
    (read_same c.in_ok-ordinals.ordinals.items (ordinals_of (option_eq nat_eq) groups) c.loop-at.at c.index.result.now c.index.ensures c.in_ok-ordinals.ensures (omega (arith, c.loop-at-test.true, length-ordinals (option_eq nat_eq) [] groups)))
    (read_same c.in_ok-left.left.items (ordinals_of (option_eq nat_eq) (reverse groups)) (length groups - 1 - c.loop-at.at) c.index-in-loop-at.result.now c.index-in-loop-at.ensures same (omega (arith, c.loop-at-test.true, length-ordinals (option_eq nat_eq) [] (reverse groups), length-reverse groups)))
    c.gap_of.ensures c.in_ok-push.ensures.items c.loop-at.invariant
