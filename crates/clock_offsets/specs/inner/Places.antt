-- Tables of messages with the indices of events.
use Rattle.std.specs.Prelude.{◌≡◌, ℕ, ◌<◌, Option, Some, None, List, slice_index_or}
use Rattle.trace_types.specs.declared.event.Event.{Event}
use Rattle.trace_types.specs.Events.{sends_of, receipts_of}
use Rattle.trace_types.specs.Repeats.{IsLineOfRepeat}
use Rattle.clock_offsets.specs.declared.clock_fault.ClockFault.{ClockFault}
use Rattle.clock_offsets.specs.declared.clock_fault.ClockFault.TheVariants.{RepeatedSend}
use Rattle.clock_offsets.specs.declared.clock_fault.ClockFault.TheVariants.{RepeatedRecv}
use Rattle.clock_offsets.specs.inner.MessagePlaces.{MessagePlace, message_place_in}
use Rattle.clock_offsets.specs.declared.places.End.{End}
use Rattle.clock_offsets.specs.declared.places.End.TheVariants.{Sending, Receipt}

-- the message of each event at an end
abbrev pub messages_at : End → List Event → List (Option (List ℕ))
messages_at Sending events = sends_of events
messages_at Receipt events = receipts_of events

-- the fault of a message that occurs twice at an end
abbrev pub repeat_at : End → ℕ → ClockFault
repeat_at Sending line = RepeatedSend line
repeat_at Receipt line = RepeatedRecv line

-- the table has the indices of the first n keys, which differ
pub record AreIndices (keys : List (Option (List ℕ))) (n : ℕ)
    (places : List MessagePlace) : Type 0 where
  pub right : (text : List ℕ) (p : ℕ) → message_place_in places text ≡ Some p → (p < n)
      × (slice_index_or keys p None ≡ Some text)
  pub all : (text : List ℕ) (p : ℕ) → p < n → slice_index_or keys p None ≡ Some text
      → message_place_in places text ≡ Some p

-- the fault is that a message occurs twice at an end, on the first such line
abbrev pub IsRepeatAt : List Event → End → ClockFault → Type 0
IsRepeatAt events end fault = (line : ℕ) × (fault ≡ repeat_at end line)
    × IsLineOfRepeat events (messages_at end events) line
