use Rattle.drill_input.specs.DrillInput.{line_of}
use Rattle.drill_input.proofs.TraceLemmas.{one_item_more, all_items}
use Rattle.drill_input.proofs.generation.put_lines.Goals as goal

pub loop-line-preserved : goal.loop-line-preserved
loop-line-preserved c = one_item_more (line_of c.args.index) _ _ _ _ _ _ c.loop-line-test.true c.line-item.is c.loop-line.invariant c.in_ok-put_line.ensures

pub returns : goal.returns
returns c = all_items (line_of c.args.index) _ _ _ _ c.loop-line-test.false c.loop-line.invariant
