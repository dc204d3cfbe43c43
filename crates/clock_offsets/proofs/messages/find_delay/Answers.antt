use Rattle.std.proofs.Common.{ap, pos, ◌-ℤ◌, ◌∙◌, arith}
use Rattle.trace_types.specs.Events.{time_at}
use Rattle.clock_offsets.proofs.TimeLemmas.{early_at, time_fits, difference_fits, difference_is}
use Rattle.clock_offsets.proofs.messages.find_delay.Goals as goal

pub overflow_cast-received : goal.overflow_cast-received
overflow_cast-received c =
    let early = early_at c.args.trace.now.trace.events c.args.to c.requires.timely c.requires.to in
    time_fits c.time-received.result (omega (arith, c.time-received.ensures))

pub overflow_cast-sent : goal.overflow_cast-sent
overflow_cast-sent c =
    let early = early_at c.args.trace.now.trace.events c.args.from c.requires.timely c.requires.from in
    time_fits c.time-sent.result (omega (arith, c.time-sent.ensures))

pub overflow_sub-result : goal.overflow_sub-result
overflow_sub-result c =
    let received = early_at c.args.trace.now.trace.events c.args.to c.requires.timely c.requires.to in
    let sent = early_at c.args.trace.now.trace.events c.args.from c.requires.timely c.requires.from in
    difference_fits c.time-received.result c.time-sent.result (omega (arith, c.time-received.ensures)) (omega (arith, c.time-sent.ensures))

pub returns : goal.returns
returns c =
    let received = early_at c.args.trace.now.trace.events c.args.to c.requires.timely c.requires.to in
    let sent = early_at c.args.trace.now.trace.events c.args.from c.requires.timely c.requires.from in
    difference_is c.time-received.result c.time-sent.result (omega (arith, c.time-received.ensures)) (omega (arith, c.time-sent.ensures))
    ∙ (ap (λ t. pos t -ℤ pos c.time-sent.result) c.time-received.ensures ∙ ap (λ t. pos (time_at c.args.trace.now.trace.events c.args.to) -ℤ pos t) c.time-sent.ensures)
