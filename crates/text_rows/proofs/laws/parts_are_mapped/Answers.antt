use Rattle.text_rows.proofs.PartLemmas.{parts_map, prefix_map}
use Rattle.text_rows.proofs.laws.parts_are_mapped.Goals as goal

pub returns-clause-parts : goal.returns-clause-parts
returns-clause-parts g c parts = parts_map (g.K.Parts.is_text parts) g.P.PartTexts.is_text

pub returns-clause-prefix : goal.returns-clause-prefix
returns-clause-prefix g c parts = prefix_map (g.K.Parts.is_text parts) g.P.PartTexts.is_text
