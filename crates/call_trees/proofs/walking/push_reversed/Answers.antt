use Rattle.std.proofs.Common.{◌-◌, get_or, length, refl, sym, append-nil}
use Rattle.call_trees.proofs.WalkLemmas.{reversed_all, reversed_more}
use Rattle.call_trees.proofs.walking.push_reversed.Goals as goal

pub loop-at-init : goal.loop-at-init
loop-at-init c = sym (append-nil c.args.stack.now.items)

pub loop-at-preserved : goal.loop-at-preserved
loop-at-preserved c =
    let xs = c.args.numbers.now in
    reversed_more xs c.args.stack.now.items c.loop-at.stack.items c.push.new.self.items c.loop-at.at (get_or xs (length xs - 1 - c.loop-at.at) 0) c.loop-at-test.true refl c.loop-at.invariant c.in_ok-push.ensures.items

pub returns : goal.returns
returns c = reversed_all c.args.numbers.now c.args.stack.now.items c.loop-at.stack.items c.loop-at.at c.loop-at-test.false c.loop-at.invariant
