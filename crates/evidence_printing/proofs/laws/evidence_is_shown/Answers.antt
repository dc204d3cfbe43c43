use Rattle.evidence_printing.proofs.ShownLemmas.{evidence_shown}
use Rattle.evidence_printing.proofs.laws.evidence_is_shown.Goals as goal

pub returns : goal.returns
returns c = λ known b choice meetings sharings names tasks rows kept keeps is tables numbers are shown. evidence_shown known keeps b is choice meetings sharings names tasks rows kept tables numbers are shown
