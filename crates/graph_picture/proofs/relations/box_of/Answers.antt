use Rattle.std.proofs.Common.{sym, ◌∙◌}
use Rattle.graph_picture.proofs.LineLemmas.{box_here, box_later, no_box}
use Rattle.graph_picture.proofs.relations.box_of.Goals as goal

pub boxes-preserved : goal.boxes-preserved
boxes-preserved c = c.boxes.invariant ∙ box_later c.args.count c.args.boxes.now c.boxes.row-index c.row-item.result c.args.task.now c.boxes-test.true c.row-item.is (sym c.is_of.ensures ∙ c.if-is_of.false)

pub returns-then-is_of : goal.returns-then-is_of
returns-then-is_of c = c.get.ensures.value ∙ sym (c.boxes.invariant ∙ box_here c.args.count c.args.boxes.now c.boxes.row-index c.row-item.result c.args.task.now c.boxes-test.true c.row-item.is (sym c.is_of.ensures ∙ c.if-is_of.true))

pub returns : goal.returns
returns c = sym (c.boxes.invariant ∙ no_box c.args.count c.args.boxes.now c.boxes.row-index c.args.task.now c.boxes-test.false)
