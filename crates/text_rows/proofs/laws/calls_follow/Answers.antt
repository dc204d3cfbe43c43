use Rattle.text_rows.proofs.PrintLemmas.{text_after, text_longer}
use Rattle.text_rows.proofs.laws.calls_follow.Goals as goal

pub returns-clause-follow : goal.returns-clause-follow
returns-clause-follow g c = text_after g.S.Sink.written g.S.Sink.faults

pub returns-clause-goes_on : goal.returns-clause-goes_on
returns-clause-goes_on g c = text_longer g.S.Sink.written g.S.Sink.faults
