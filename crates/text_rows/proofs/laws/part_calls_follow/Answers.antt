use Rattle.text_rows.proofs.PartLemmas.{parts_after, parts_longer, part_called}
use Rattle.text_rows.proofs.laws.part_calls_follow.Goals as goal

pub returns-clause-follow : goal.returns-clause-follow
returns-clause-follow g c = parts_after g.S.Sink.written g.S.Sink.faults g.P.PartTexts.is_text

pub returns-clause-goes_on : goal.returns-clause-goes_on
returns-clause-goes_on g c = parts_longer g.S.Sink.written g.S.Sink.faults g.P.PartTexts.is_text

pub returns-clause-one : goal.returns-clause-one
returns-clause-one g c = part_called g.S.Sink.written g.S.Sink.faults g.P.PartTexts.is_text
