use Rattle.std.specs.Prelude.{is_some}
use Rattle.trace_types.specs.declared.event.Event.{Event}
use Rattle.trace_quality.proofs.NameLemmas.{ArePassed}
use Rattle.trace_quality.proofs.waits.gather_receivers.Given as goal

-- those of the events so far
abbrev pub invariant-events : goal.invariant-events
invariant-events l = ArePassed (λ (e : Event). is_some e.recv) l.raw l.at l.named
