use Rattle.digest_reading.proofs.FieldLemmas.{header_above, header_below}
use Rattle.digest_reading.proofs.headers.read_counts.Goals as goal

pub returns-in_default : goal.returns-in_default
returns-in_default c = header_below c.args.fields.now c.in_default.len_below

pub returns-in_default-2 : goal.returns-in_default-2
returns-in_default-2 c = header_above c.args.fields.now c.in_default.len_at_least
