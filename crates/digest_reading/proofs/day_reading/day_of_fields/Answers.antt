use Rattle.digest_reading.proofs.FieldLemmas.{day_above, day_below}
use Rattle.digest_reading.proofs.day_reading.day_of_fields.Goals as goal

pub returns-in_default : goal.returns-in_default
returns-in_default c = day_below c.args.earlier.now c.args.fields.now c.in_default.len_below

pub returns-in_default-2 : goal.returns-in_default-2
returns-in_default-2 c = day_above c.args.earlier.now c.args.fields.now c.in_default.len_at_least
