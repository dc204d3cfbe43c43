use Rattle.std.proofs.Common.{arith, ◌<◌, length, true, false}
use Rattle.std.specs.Prelude.{is_some}
use Rattle.trace_types.specs.declared.event.Event.{Event}
use Rattle.trace_quality.proofs.NameLemmas.{field_passes, passed_all, passed_more, passed_not}
use Rattle.trace_quality.proofs.waits.gather_senders.Goals as goal
use Rattle.trace_quality.proofs.waits.gather_senders.Goals.{then-is_some+in_ok-put_name, else-is_some}

pub events-preserved : goal.events-preserved
events-preserved c =
    let lt : c.events.at < length c.args.raw.now.trace.events = omega (arith, c.events-test.true, c.len-at-end.ensures.events) in
    elim c.if-is_some.branch [
      | then-is_some+in_ok-put_name w ↦
          rw w.named-is (passed_more (λ (e : Event). is_some e.send) c.args.raw.now c.events.at c.events.named lt c.events.invariant w.put_name.new.named
          (field_passes (λ (e : Event). e.send) c.args.raw.now.trace.events c.events.at c.send.result c.is_some.result true lt c.send.ensures c.is_some.ensures w.if-is_some.true)
          w.in_ok-put_name.ensures)
      | else-is_some w ↦
          rw w.named-is (passed_not (λ (e : Event). is_some e.send) c.args.raw.now c.events.at c.events.named lt c.events.invariant
          (field_passes (λ (e : Event). e.send) c.args.raw.now.trace.events c.events.at c.send.result c.is_some.result false lt c.send.ensures c.is_some.ensures w.if-is_some.false))
    ]

pub returns : goal.returns
returns c = passed_all (λ (e : Event). is_some e.send) c.args.raw.now c.events.at c.events.named (omega (arith, c.events-test.false, c.len-at-end.ensures.events)) c.events.invariant
