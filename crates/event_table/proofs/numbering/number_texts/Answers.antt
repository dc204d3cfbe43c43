use Rattle.std.proofs.Common.{ℕ, List, sym, subst}
use Rattle.std.specs.Vec.Iter.{into_iter_items}
use Rattle.event_table.proofs.RenumberLemmas.{AreNumberedUpTo, numbered_none, numbered_more}
use Rattle.event_table.proofs.numbering.number_texts.Goals as goal

pub loop-text-init : goal.loop-text-init
loop-text-init c =
    subst (λ (numbers : List ℕ). AreNumberedUpTo c.args.whole.now c.args.whole.now (into_iter_items c.into_iter-text-iterator.result) (into_iter_items c.into_iter-text-iterator.result) numbers) (sym c.in_ok-numbers.ensures.items)
    (numbered_none c.args.whole.now (into_iter_items c.into_iter-text-iterator.result))

pub loop-text-preserved : goal.loop-text-preserved
loop-text-preserved c =
    numbered_more c.args.whole.now c.loop-text.whole c.insert.new.self (into_iter_items c.into_iter-text-iterator.result) (into_iter_items c.loop-text.text-iterator) (into_iter_items c.next.new.self) c.loop-text.numbers.items c.push.new.self.items c.in-Some.text c.in_ok-insert.field-0
    c.loop-text.invariant c.in-Some.ensures.steps.0 c.in_ok-insert.ensures.grown c.in_ok-insert.ensures.number c.in_ok-push.ensures.items
