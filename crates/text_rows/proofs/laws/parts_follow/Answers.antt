use Rattle.text_rows.proofs.PartLemmas.{texts_more, parts_none, parts_more, parts_prefix, prefix_of_more, prefix_unbegun}
use Rattle.text_rows.proofs.laws.parts_follow.Goals as goal

pub returns-clause-texts : goal.returns-clause-texts
returns-clause-texts g c = texts_more g.P.PartTexts.is_text

pub returns-clause-none : goal.returns-clause-none
returns-clause-none g c = parts_none g.P.PartTexts.is_text

pub returns-clause-parts : goal.returns-clause-parts
returns-clause-parts g c = parts_more g.P.PartTexts.is_text

pub returns-clause-prefix : goal.returns-clause-prefix
returns-clause-prefix g c = parts_prefix g.P.PartTexts.is_text

pub returns-clause-goes_on : goal.returns-clause-goes_on
returns-clause-goes_on g c = prefix_of_more g.P.PartTexts.is_text

pub returns-clause-unbegun : goal.returns-clause-unbegun
returns-clause-unbegun g c = prefix_unbegun g.P.PartTexts.is_text
