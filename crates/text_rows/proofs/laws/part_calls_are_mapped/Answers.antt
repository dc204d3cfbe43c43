use Rattle.text_rows.proofs.PartLemmas.{parts_called}
use Rattle.text_rows.proofs.laws.part_calls_are_mapped.Goals as goal

pub returns : goal.returns
returns g c parts = parts_called g.S.Sink.written g.S.Sink.faults (g.K.Parts.is_text parts) g.P.PartTexts.is_text
