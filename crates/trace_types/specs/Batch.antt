-- The traces of a batch of events.
use Rattle.std.specs.Prelude.{ℕ, List, Bool, map, filter}
use Rattle.std.specs.Str.{bytes_eq}
use Rattle.trace_types.specs.declared.event.Event.{Event}
use Rattle.trace_types.specs.Firsts.{firsts_of}

-- a request and events of it
pub record PlainTrace : Type 0 where
  pub request : List ℕ
  pub events : List Event

-- the event belongs to this request
abbrev pub is_of_request : List ℕ → Event → Bool
is_of_request request event = bytes_eq event.request request

-- all events of a request, in the order of the batch
abbrev pub events_of : List ℕ → List Event → List Event
events_of request batch = filter (is_of_request request) batch

-- the requests of a batch, each once, in the order of their first events
abbrev pub requests_of : List Event → List (List ℕ)
requests_of batch = firsts_of bytes_eq (map (λ (e : Event). e.request) batch)

-- the trace of a request: all its events in the batch
abbrev pub trace_of : List Event → List ℕ → PlainTrace
trace_of batch request = record { request = request; events = events_of request batch }

-- the traces of a batch, one for each request, in the order of their first events
abbrev pub traces_of : List Event → List PlainTrace
traces_of batch = map (trace_of batch) (requests_of batch)
