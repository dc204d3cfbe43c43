use Rattle.std.proofs.Common.{arith}
use Rattle.std.proofs.lemmas.Nat.{pow_pos}
use Rattle.path_gains.proofs.SpanLemmas.{level_below, level_small}
use Rattle.path_gains.proofs.spans.count_levels.Goals as goal

pub returns-then-count-eq0 : goal.returns-then-count-eq0
returns-then-count-eq0 c = record {
  levels = λ level low. let some = pow_pos level in absurd (omega arith);
  few = omega arith;
}

pub returns-else-count-eq0-clause-levels : goal.returns-else-count-eq0-clause-levels
returns-else-count-eq0-clause-levels c = λ level low. level_below level c.ilog2.result c.args.count low c.ilog2.ensures.next_power_gt

pub returns-else-count-eq0-clause-few : goal.returns-else-count-eq0-clause-few
returns-else-count-eq0-clause-few c = let few = level_small c.ilog2.result c.args.count c.ilog2.ensures.power_le c.requires in omega arith
