-- The numbers of a part's texts in the whole tables, and events under these.
use Rattle.std.specs.Prelude.{ℕ, ◌≡◌, ◌+◌, ◌==◌, List, Some, length, map, slice_get, slice_index}
use Rattle.std.specs.Prelude.{if◌then◌else◌}
use Rattle.std.specs.List.{flat_map}
use Rattle.event_table.specs.declared.event_numbers.EventNumbers.{EventNumbers}
use Rattle.event_table.specs.declared.numbered_part.NumberedPart.{NumberedPart}
use Rattle.event_table.specs.declared.numbered_part.TextNumbers.{TextNumbers}
use Rattle.event_table.specs.Numbers.{no_message}
use Rattle.event_table.specs.Texts.{TextLists}
use Rattle.event_table.specs.inner.PartNumbers.{AreOfPart}

-- in the whole table the texts have these numbers, one a text
abbrev pub AreNumbersOf : List (List ℕ) → List (List ℕ) → List ℕ → Type 0
AreNumbersOf whole texts numbers = map (slice_get whole) numbers ≡ map Some texts

-- in the whole tables the texts of each kind have these numbers
pub record AreAllNumbersOf (whole texts : TextLists) (numbers : TextNumbers) : Type 0 where
  pub requests : AreNumbersOf whole.requests texts.requests numbers.requests.items
  pub machines : AreNumbersOf whole.machines texts.machines numbers.machines.items
  pub tasks : AreNumbersOf whole.tasks texts.tasks numbers.tasks.items
  pub names : AreNumbersOf whole.names texts.names numbers.names.items

-- the place of a message after so many earlier ones
abbrev pub place_after : ℕ → ℕ → ℕ
place_after earlier place = if place == no_message then no_message else earlier + place

-- the event under these numbers, its messages after so many earlier ones
abbrev pub renumbered_by : TextNumbers → (sends receipts : ℕ) → EventNumbers → EventNumbers
renumbered_by numbers sends receipts event = record {
  time = event.time;
  line = event.line;
  request = slice_index numbers.requests.items event.request;
  machine = slice_index numbers.machines.items event.machine;
  task = slice_index numbers.tasks.items event.task;
  event = slice_index numbers.names.items event.event;
  send = place_after sends event.send;
  recv = place_after receipts event.recv;
}

-- the event under the numbers of the whole tables
abbrev pub renumbered : NumberedPart → EventNumbers → EventNumbers
renumbered part event = renumbered_by part.numbers part.sends part.receipts event

-- the event's numbers are those of the part's texts, and its places, after so many earlier
-- messages, are still below `no_message`
abbrev pub IsOwn : NumberedPart → EventNumbers → Type 0
IsOwn part event =
    AreOfPart (length part.numbers.requests.items) (length part.numbers.machines.items)
    (length part.numbers.tasks.items) (length part.numbers.names.items) part.sends part.receipts
    event

-- the events of a part under the numbers of the whole tables
abbrev pub part_events : NumberedPart → List EventNumbers
part_events part = map (renumbered part) part.events.items

-- the events of parts, one part after another
abbrev pub whole_events : List NumberedPart → List EventNumbers
whole_events parts = flat_map part_events parts
