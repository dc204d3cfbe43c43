-- The numbers of a part's events.
use Rattle.std.specs.Prelude.{ℕ, ◌≢◌, ◌<◌, ◌+◌}
use Rattle.event_table.specs.declared.event_numbers.EventNumbers.{EventNumbers}
use Rattle.event_table.specs.Numbers.{no_message}

-- after so many earlier messages the place is still below no_message, unless it stands for none
abbrev pub IsPlaceAfter : ℕ → ℕ → Type 0
IsPlaceAfter earlier place = place ≢ no_message → earlier + place < no_message

-- the event's numbers are those of a part's texts, of which there are so many, and its places,
-- after so many earlier messages, are still below `no_message`
pub record AreOfPart (requests machines tasks names sends receipts : ℕ) (numbers : EventNumbers)
    : Type 0 where
  pub request : numbers.request < requests
  pub machine : numbers.machine < machines
  pub task : numbers.task < tasks
  pub event : numbers.event < names
  pub send : IsPlaceAfter sends numbers.send
  pub recv : IsPlaceAfter receipts numbers.recv
