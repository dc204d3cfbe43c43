use Rattle.std.proofs.Common.{arith, sym}
use Rattle.std.proofs.lemmas.List.{length-take-le, take_all}
use Rattle.inspect_run.proofs.near_rows.first_relations.Goals as goal

pub slice_bounds-result-end : goal.slice_bounds-result-end
slice_bounds-result-end c = sym (length-take-le 100 c.args.near.now (omega (arith, c.if-near-gt-MOST.true)))

pub returns-else-near-gt-MOST : goal.returns-else-near-gt-MOST
returns-else-near-gt-MOST c = sym (take_all 100 c.args.near.now (omega (arith, c.if-near-gt-MOST.false)))
