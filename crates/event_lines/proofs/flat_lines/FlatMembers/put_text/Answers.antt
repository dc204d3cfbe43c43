use Rattle.std.proofs.Common.{codes}
use Rattle.serde_json.specs.Data.{string}
use Rattle.event_lines.specs.inner.FlatObjects.{slots}
use Rattle.event_lines.proofs.FlatReadingLemmas.{put_known, put_other}
use Rattle.event_lines.proofs.flat_lines.FlatMembers.put_text.Goals as goal

pub returns-in-request-clause-put : goal.returns-in-request-clause-put
returns-in-request-clause-put c t ms h = rw c.in-request.is (put_known c.args.self.now (codes "request") (string c.args.text.now) ms h)

pub returns-in-machine-clause-put : goal.returns-in-machine-clause-put
returns-in-machine-clause-put c t ms h = rw c.in-machine.is (put_known c.args.self.now (codes "machine") (string c.args.text.now) ms h)

pub returns-in-task-clause-put : goal.returns-in-task-clause-put
returns-in-task-clause-put c t ms h = rw c.in-task.is (put_known c.args.self.now (codes "task") (string c.args.text.now) ms h)

pub returns-in-event-clause-put : goal.returns-in-event-clause-put
returns-in-event-clause-put c t ms h = rw c.in-event.is (put_known c.args.self.now (codes "event") (string c.args.text.now) ms h)

pub returns-in-send-clause-put : goal.returns-in-send-clause-put
returns-in-send-clause-put c t ms h = rw c.in-send.is (put_known c.args.self.now (codes "send") (string c.args.text.now) ms h)

pub returns-in-recv-clause-put : goal.returns-in-recv-clause-put
returns-in-recv-clause-put c t ms h = rw c.in-recv.is (put_known c.args.self.now (codes "recv") (string c.args.text.now) ms h)

pub returns-in_default-clause-put : goal.returns-in_default-clause-put
returns-in_default-clause-put c t ms h =
    let other = c.in_default in
    put_other c.args.key.now _ ms (slots c.args.self.now) (other.not-request, (other.not-machine, (other.not-task, (other.not-event, (other.not-send, (other.not-recv, (other.not-time, (other.not-nanos, (other.not-do, tt))))))))) h
