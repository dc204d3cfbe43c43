use Rattle.std.proofs.Common.{rules, ap, ◌∙◌}
use Rattle.tail_picture.proofs.ShadeLemmas.{clipped}
use Rattle.tail_picture.proofs.heat.sum_at.Goals as goal

pub returns-clause-value : goal.returns-clause-value
returns-clause-value c = search (clipped, rules)
