use Rattle.text_rows.proofs.PartLemmas.{parts_one, prefix_one}
use Rattle.text_rows.proofs.laws.a_text_is_one_part.Goals as goal

pub returns-clause-prints : goal.returns-clause-prints
returns-clause-prints g c = parts_one g.P.PartTexts.is_text

pub returns-clause-prefix : goal.returns-clause-prefix
returns-clause-prefix g c = prefix_one g.P.PartTexts.is_text
