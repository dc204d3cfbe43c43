use Rattle.std.proofs.Common.{◌∙◌, ap}
use Rattle.pretty_cli.specs.declared.cell.Cell.TheVariants.{Difference, Time}
use Rattle.pretty_cli.proofs.NumberLemmas.{gap_is, gap_is_time}
use Rattle.pretty_cli.proofs.relation_cells.gap_cell.Goals as goal

pub returns-in-Some : goal.returns-in-Some
returns-in-Some c = ap (Difference 0) c.number_of.ensures ∙ gap_is c.args.text.now c.in-Some.digits.now c.in-Some.ensures.cases

pub returns-in-None : goal.returns-in-None
returns-in-None c = ap Time c.number_of-in-None.ensures ∙ gap_is_time c.args.text.now c.in-None.ensures.cases
