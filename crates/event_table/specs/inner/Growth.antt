-- Texts and messages that are appended, and how many there are at most.
use Rattle.std.specs.Prelude.{ℕ, ◌≡◌, ◌≤◌, List, [], ◌∷◌, ◌++◌, length, if◌then◌else◌}
use Rattle.std.specs.List.{list_any}
use Rattle.std.specs.Str.{bytes_eq}
use Rattle.event_table.specs.Texts.{AreDifferent, MessageLists, TextLists}

-- the texts with this one: it stands last, unless it is there
abbrev pub with_text : List (List ℕ) → List ℕ → List (List ℕ)
with_text texts text = if list_any (bytes_eq text) texts then texts else texts ++ text ∷ []

-- texts are appended, at most so many: each number stays that of its text
abbrev pub GrowsBy : ℕ → List (List ℕ) → List (List ℕ) → Type 0
GrowsBy most old new = (more : List (List ℕ)) × (new ≡ old ++ more) × (length more ≤ most)

-- at most so many texts of each kind are appended
pub record TextsGrowBy (most : ℕ) (old new : TextLists) : Type 0 where
  pub requests : GrowsBy most old.requests new.requests
  pub machines : GrowsBy most old.machines new.machines
  pub tasks : GrowsBy most old.tasks new.tasks
  pub names : GrowsBy most old.names new.names

-- at most so many messages are appended to each list
pub record MessagesGrowBy (most : ℕ) (old new : MessageLists) : Type 0 where
  pub sends : GrowsBy most old.sends new.sends
  pub receipts : GrowsBy most old.receipts new.receipts

-- no text of a kind stands twice
pub record AreAllDifferent (texts : TextLists) : Type 0 where
  pub requests : AreDifferent texts.requests
  pub machines : AreDifferent texts.machines
  pub tasks : AreDifferent texts.tasks
  pub names : AreDifferent texts.names

-- there are at most so many texts of each kind
pub record AreFewTexts (most : ℕ) (texts : TextLists) : Type 0 where
  pub requests : length texts.requests ≤ most
  pub machines : length texts.machines ≤ most
  pub tasks : length texts.tasks ≤ most
  pub names : length texts.names ≤ most

-- each list has at most so many messages
pub record AreFewMessages (most : ℕ) (messages : MessageLists) : Type 0 where
  pub sends : length messages.sends ≤ most
  pub receipts : length messages.receipts ≤ most
