-- Facts on lists of events.
use Rattle.std.specs.Prelude.{◌≡◌, ℕ, List, All, map}
use Rattle.std.specs.List.Sorted.{IsStrictlyIncreasing}
use Rattle.trace_types.specs.declared.event.Event.{Event}

-- every event has this request
abbrev pub AreOfRequest : List ℕ → List Event → Type 0
AreOfRequest request events = All (λ (e : Event). e.request ≡ request) events

-- each event has a greater line than the one before it
abbrev pub LinesRise : List Event → Type 0
LinesRise events = IsStrictlyIncreasing (map (λ (e : Event). e.line) events)
