use Rattle.mystery_io.proofs.KnownLemmas.{sends_by}
use Rattle.mystery_io.proofs.writing.send_text.Goals as goal

pub returns-clause-sends : goal.returns-clause-sends
returns-clause-sends g c = sends_by c.write_text.result g.S.Sink.written g.S.Sink.faults c.args.sink.now c.write_text.new.sink _ c.write_text.ensures.all c.write_text.ensures.prefix c.write_text.ensures.counted
