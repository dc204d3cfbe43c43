use Rattle.std.proofs.Common.{ℕ, [], List, take}
use Rattle.event_table.specs.inner.Placing.{IsPlacing}
use Rattle.event_table.specs.inner.Renumbering.{whole_events}
use Rattle.event_table.proofs.placing.place_parts.Given as goal

-- the events of the parts so far are in their places
abbrev pub invariant-loop-part : goal.invariant-loop-part
invariant-loop-part l =
    (requests : List ℕ) → IsPlacing [] (whole_events l.parts) requests l.fn.next l.fn.events → IsPlacing (whole_events (take l.part-index l.parts)) (whole_events l.parts) requests l.next l.events
