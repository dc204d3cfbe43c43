use Rattle.text_rows.proofs.PartLemmas.{parts_flushed, parts_cut}
use Rattle.text_rows.proofs.laws.flush_ends_parts.Goals as goal

pub returns-clause-whole : goal.returns-clause-whole
returns-clause-whole g c = parts_flushed g.P.PartTexts.is_text

pub returns-clause-prefix : goal.returns-clause-prefix
returns-clause-prefix g c = parts_cut g.P.PartTexts.is_text
