use Rattle.std.proofs.Common.{ap, arith, ◌∙◌}
use Rattle.std.specs.Prelude.{min}
use Rattle.room_picture.proofs.LeastLemmas.{least_done, least_first, least_next}
use Rattle.room_picture.proofs.table.least_of.Goals as goal

pub rows-init : goal.rows-init
rows-init c = record {
  told = least_first c.args.full c.args.rows.now;
  most = omega arith;
}

pub rows-preserved : goal.rows-preserved
rows-preserved c = record {
  told = least_next c.args.full c.args.rows.now c.rows.row-index c.row-item.result c.rows.least c.min-least.result c.rows-test.true c.row-item.is (c.min-least.ensures ∙ ap (λ n. min n c.rows.least) c.row_least.ensures.value) c.rows.invariant.told;
  most = omega (arith, c.min-least.ensures, c.rows.invariant.most);
}

pub returns-clause-value : goal.returns-clause-value
returns-clause-value c = least_done c.args.full c.args.rows.now c.rows.row-index c.rows.least c.rows-test.false c.rows.invariant.most c.rows.invariant.told

pub returns-clause-small : goal.returns-clause-small
returns-clause-small c = omega (arith, c.rows.invariant.most, c.requires)
