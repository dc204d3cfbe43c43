use Rattle.certificates.proofs.FieldLemmas.{claim_below}
use Rattle.certificates.proofs.claim_lines.read_fields.Goals as goal

pub returns-in_default : goal.returns-in_default
returns-in_default c = claim_below c.args.number c.args.fields.now c.in_default.len_below
