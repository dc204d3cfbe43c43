use Rattle.std.proofs.Common.{arith}
use Rattle.std.proofs.lemmas.List.{length-map}
use Rattle.trace_types.specs.declared.event.Event.{Event}
use Rattle.trace_types.specs.Events.{receipts_of, sends_of}
use Rattle.trace_quality.proofs.MessageLemmas.{counted_all, counted_more}
use Rattle.trace_quality.proofs.messages.count_received.Goals as goal

pub events-preserved : goal.events-preserved
events-preserved c =
    let long = length-map c.args.raw.now.trace.events (λ (e : Event). e.recv) in
    counted_more c.args.sends.now (sends_of c.args.raw.now.trace.events) (receipts_of c.args.raw.now.trace.events) c.events.at _ _ _ _ _ (omega (arith, c.events-test.true, c.len-at-end.ensures.events, long)) c.requires.sends c.events.invariant c.recv.ensures c.count_end-counts.ensures.all c.count_end-counts.ensures.alone

pub returns-clause-all : goal.returns-clause-all
returns-clause-all c =
    let long = length-map c.args.raw.now.trace.events (λ (e : Event). e.recv) in
    (counted_all (sends_of c.args.raw.now.trace.events) (receipts_of c.args.raw.now.trace.events) c.events.at _ _ (omega (arith, c.events-test.false, c.len-at-end.ensures.events, long)) c.events.invariant).0

pub returns-clause-alone : goal.returns-clause-alone
returns-clause-alone c =
    let long = length-map c.args.raw.now.trace.events (λ (e : Event). e.recv) in
    (counted_all (sends_of c.args.raw.now.trace.events) (receipts_of c.args.raw.now.trace.events) c.events.at _ _ (omega (arith, c.events-test.false, c.len-at-end.ensures.events, long)) c.events.invariant).1
