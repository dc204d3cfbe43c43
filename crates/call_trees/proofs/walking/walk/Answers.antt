use Rattle.std.proofs.Common.{◌∙◌, ◌<◌, ◌++◌, List, ℕ, ap, length, reverse, rules}
use Rattle.call_trees.proofs.WalkLemmas.{on_top, walk_begins, walk_less, walk_more}
use Rattle.call_trees.proofs.walking.walk.Goals as goal

pub steps-init : goal.steps-init
steps-init c = walk_begins c.args.below.now c.args.roots.now c.in_ok-walk.walk.items c.new-stack.result.items c.push_reversed.new.stack.items c.requires c.in_ok-walk.ensures.items c.new-stack.ensures.items c.in_ok-push_reversed.ensures

pub bounds-below-number : goal.bounds-below-number
bounds-below-number c = on_top c.args.below.now c.args.roots.now c.steps.walk.items c.steps.stack.items c.pop.new.self.items c.in-Some.number c.steps.invariant c.in-Some.ensures.items

pub steps-smaller : goal.steps-smaller
steps-smaller c = walk_less c.args.below.now c.args.roots.now c.steps.walk.items c.push.new.self.items c.steps.stack.items c.pop.new.self.items c.push_reversed-in-Some.new.stack.items c.index-below-number.result c.in-Some.number c.steps.invariant c.in-Some.ensures.items c.in_ok-push.ensures.items c.index-below-number.is
    (c.in_ok-push_reversed-2.ensures ∙ ap (λ (ys : List ℕ). c.pop.new.self.items ++ reverse ys) c.items.ensures)

pub steps-preserved : goal.steps-preserved
steps-preserved c = walk_more c.args.below.now c.args.roots.now c.steps.walk.items c.push.new.self.items c.steps.stack.items c.pop.new.self.items c.push_reversed-in-Some.new.stack.items c.index-below-number.result c.in-Some.number c.steps.invariant c.in-Some.ensures.items c.in_ok-push.ensures.items c.index-below-number.is
    (c.in_ok-push_reversed-2.ensures ∙ ap (λ (ys : List ℕ). c.pop.new.self.items ++ reverse ys) c.items.ensures)

pub offset_bounds-below-number : goal.offset_bounds-below-number
offset_bounds-below-number c =
    let within : c.in-Some.number < length c.args.below.now = on_top c.args.below.now c.args.roots.now c.steps.walk.items c.steps.stack.items c.pop.new.self.items c.in-Some.number c.steps.invariant c.in-Some.ensures.items in
    search rules
