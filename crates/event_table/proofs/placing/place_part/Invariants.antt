use Rattle.std.proofs.Common.{◌≡◌, ℕ, ◌++◌, List, take}
use Rattle.event_table.specs.declared.event_numbers.EventNumbers.{EventNumbers}
use Rattle.event_table.specs.inner.Placing.{IsPlacing}
use Rattle.event_table.specs.inner.Renumbering.{part_events}
use Rattle.event_table.proofs.placing.place_part.Given as goal

-- the events so far are in their places
abbrev pub invariant-loop-event : goal.invariant-loop-event
invariant-loop-event l =
    (done all later : List EventNumbers) (requests : List ℕ) → all ≡ done ++ (part_events l.part ++ later) → IsPlacing done all requests l.fn.next l.fn.events
    → IsPlacing (done ++ take l.event-index (part_events l.part)) all requests l.next l.events
