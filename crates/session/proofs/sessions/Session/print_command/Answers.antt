use Rattle.session.proofs.ControlLemmas.{grace_step, watch_step}
use Rattle.session.proofs.sessions.Session.print_command.Goals as goal

pub returns-in-Watch-clause-stepped : goal.returns-in-Watch-clause-stepped
returns-in-Watch-clause-stepped g c = rw c.in-Watch.is (watch_step g.S.Sink.written g.S.Sink.faults c.parts_follow.ensures.none c.args.self.now c.set_watch.new.self c.in-Watch.every c.args.sink.now c.args.buffer.now c.set_watch.ensures)

pub returns-in-Grace-clause-stepped : goal.returns-in-Grace-clause-stepped
returns-in-Grace-clause-stepped g c = rw c.in-Grace.is (grace_step g.S.Sink.written g.S.Sink.faults c.parts_follow.ensures.none c.args.self.now c.set_grace.new.self c.in-Grace.micros c.args.sink.now c.args.buffer.now c.set_grace.ensures)
