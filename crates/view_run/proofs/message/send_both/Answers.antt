use Rattle.std.proofs.Common.{◌≡◌, rules}
use Rattle.std.specs.Io.KnownBytes.{append_known}
use Rattle.mystery_io.specs.Counts.{counted_up}
use Rattle.mystery_io.specs.Prefixes.{AppendsPrefix}
use Rattle.mystery_io.proofs.MessageLemmas.{sends_both, sends_first}
use Rattle.view_run.proofs.message.send_both.Goals as goal

pub returns-then-is_ok-clause-sends : goal.returns-then-is_ok-clause-sends
returns-then-is_ok-clause-sends g c =
    let S = g.S.Sink in
    let all : S.written c.write_text.new.sink ≡ append_known (S.written c.args.sink.now) c.args.first.now = search rules in
    let none : S.faults c.write_text.new.sink ≡ S.faults c.args.sink.now = search rules in
    sends_both S.written S.faults c.args.sink.now c.write_text.new.sink c.send_text.new.sink c.args.first.now c.args.second.now all none c.send_text.ensures.sends

pub returns-else-is_ok-clause-sends : goal.returns-else-is_ok-clause-sends
returns-else-is_ok-clause-sends g c =
    let S = g.S.Sink in
    let part : AppendsPrefix (S.written c.args.sink.now) (S.written c.write_text.new.sink) c.args.first.now = search rules in
    let one : S.faults c.write_text.new.sink ≡ counted_up (S.faults c.args.sink.now) = search rules in
    sends_first S.written S.faults c.args.sink.now c.write_text.new.sink c.write_text.new.sink c.args.first.now c.args.second.now part one
