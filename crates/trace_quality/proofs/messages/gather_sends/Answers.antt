use Rattle.std.proofs.Common.{arith}
use Rattle.std.proofs.lemmas.List.{length-map}
use Rattle.trace_types.specs.declared.event.Event.{Event}
use Rattle.trace_types.specs.Events.{sends_of}
use Rattle.trace_quality.proofs.MessageLemmas.{among_all, among_more}
use Rattle.trace_quality.proofs.messages.gather_sends.Goals as goal

pub events-preserved : goal.events-preserved
events-preserved c =
    let long = length-map c.args.raw.now.trace.events (λ (e : Event). e.send) in
    among_more c.events.messages c.put_message.new.messages (sends_of c.args.raw.now.trace.events) c.events.at _ (omega (arith, c.events-test.true, c.len-at-end.ensures.events, long)) c.events.invariant c.send.ensures c.in_ok-put_message.ensures

pub returns : goal.returns
returns c =
    let long = length-map c.args.raw.now.trace.events (λ (e : Event). e.send) in
    among_all c.events.messages (sends_of c.args.raw.now.trace.events) c.events.at (omega (arith, c.events-test.false, c.len-at-end.ensures.events, long)) c.events.invariant
