use Rattle.pretty_cli.proofs.NumberLemmas.{number_is, number_is_most}
use Rattle.pretty_cli.proofs.fields.number_of.Goals as goal

pub returns-in-Ok : goal.returns-in-Ok
returns-in-Ok c = number_is c.args.text.now c.in-Ok.number c.in-Ok.ensures.value.0

pub returns-in-Err : goal.returns-in-Err
returns-in-Err c = number_is_most c.args.text.now c.in-Err.ensures.value.0
