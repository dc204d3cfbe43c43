-- Events whose numbers are those of a table's texts and messages.
use Rattle.std.specs.Prelude.{ℕ, ◌≡◌, ◌<◌, ◌⊎◌, List, length, All}
use Rattle.event_table.specs.declared.event_numbers.EventNumbers.{EventNumbers}
use Rattle.event_table.specs.Numbers.{no_message}
use Rattle.event_table.specs.Texts.{MessageLists, TextLists}
use Rattle.event_table.specs.inner.Growth.{AreFewMessages, AreFewTexts}

-- the place is that of one of so many messages, or stands for none
abbrev pub IsPlace : ℕ → ℕ → Type 0
IsPlace count place = (place ≡ no_message) ⊎ (place < count)

-- the event's numbers are those of texts, and its places those of messages
pub record AreWithin (texts : TextLists) (messages : MessageLists) (numbers : EventNumbers)
    : Type 0 where
  pub request : numbers.request < length texts.requests
  pub machine : numbers.machine < length texts.machines
  pub task : numbers.task < length texts.tasks
  pub event : numbers.event < length texts.names
  pub send : IsPlace (length messages.sends) numbers.send
  pub recv : IsPlace (length messages.receipts) numbers.recv

-- events whose texts and messages are these; there are at most as many of each kind as events
pub record IsTable (texts : TextLists) (messages : MessageLists) (events : List EventNumbers)
    : Type 0 where
  pub within : All (AreWithin texts messages) events
  pub few : AreFewTexts (length events) texts
  pub few_messages : AreFewMessages (length events) messages

-- so many groups of events, none of them empty, and their texts and messages
pub record AreGathered (texts : TextLists) (messages : MessageLists)
    (groups : List (List EventNumbers)) (count : ℕ) : Type 0 where
  pub within : All (λ group. All (AreWithin texts messages) group) groups
  pub some : All (λ group. 0 < length group) groups
  pub counted : count ≡ length groups
