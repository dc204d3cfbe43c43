use Rattle.std.proofs.Common.{◌∙◌, ap}
use Rattle.pretty_cli.specs.Fields.{figure_of}
use Rattle.pretty_cli.proofs.NumberLemmas.{figure_is, figure_is_most}
use Rattle.pretty_cli.proofs.fields.figure.Goals as goal

pub returns-in-Some : goal.returns-in-Some
returns-in-Some c =
    c.number_of.ensures ∙ figure_is c.args.name.now c.field.result.now c.in-Some.number.now c.in-Some.ensures.cases
    ∙ ap (figure_of c.args.name.now) c.field.ensures

pub returns-in-None : goal.returns-in-None
returns-in-None c =
    figure_is_most c.args.name.now c.field.result.now c.in-None.ensures.cases ∙ ap (figure_of c.args.name.now) c.field.ensures
