use Rattle.std.proofs.Common.{codes}
use Rattle.serde_json.specs.Data.{number, unsigned}
use Rattle.event_lines.specs.inner.FlatObjects.{slots}
use Rattle.event_lines.proofs.FlatReadingLemmas.{put_known, put_other}
use Rattle.event_lines.proofs.flat_lines.FlatMembers.put_number.Goals as goal

pub returns-in-time-clause-put : goal.returns-in-time-clause-put
returns-in-time-clause-put c t ms h = rw c.in-time.is (put_known c.args.self.now (codes "time") (number (unsigned c.args.value)) ms h)

pub returns-in-nanos-clause-put : goal.returns-in-nanos-clause-put
returns-in-nanos-clause-put c t ms h = rw c.in-nanos.is (put_known c.args.self.now (codes "nanos") (number (unsigned c.args.value)) ms h)

pub returns-in_default-clause-put : goal.returns-in_default-clause-put
returns-in_default-clause-put c t ms h =
    let other = c.in_default in
    put_other c.args.key.now _ ms (slots c.args.self.now) (other.not-request, (other.not-machine, (other.not-task, (other.not-event, (other.not-send, (other.not-recv, (other.not-time, (other.not-nanos, (other.not-do, tt))))))))) h
