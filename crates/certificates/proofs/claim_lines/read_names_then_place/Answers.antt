use Rattle.certificates.proofs.FieldLemmas.{names_below}
use Rattle.certificates.proofs.claim_lines.read_names_then_place.Goals as goal

pub returns-in_default : goal.returns-in_default
returns-in_default c = names_below c.args.fields.now c.in_default.len_below
