-- Tasks and names of events by their numbers.
use Rattle.std.specs.Prelude.{ℕ, ◌≡◌, ◌<◌, ◌&&◌, List, Bool, All, length, nat_eq}
use Rattle.std.specs.List.{list_any}
use Rattle.std.specs.Str.{bytes_eq}
use Rattle.event_table.specs.Gathered.{NumberedTrace}
use Rattle.event_table.specs.Numbers.{text_under}
use Rattle.event_table.specs.Texts.{TextLists}
use Rattle.trace_types.specs.Batch.{PlainTrace}
use Rattle.trace_types.specs.Events.{event_name_at, task_at}
use Rattle.trace_groups.specs.Groups.{has_event}

-- the two pairs of numbers are equal
abbrev pub is_name : ℕ × ℕ → ℕ × ℕ → Bool
is_name a b = nat_eq a.0 b.0 && nat_eq a.1 b.1

-- the numbers are those of texts
abbrev pub IsKnown : TextLists → ℕ × ℕ → Type 0
IsKnown texts k = (k.0 < length texts.tasks) × (k.1 < length texts.names)

-- the trace has an event with these numbers
abbrev pub has_name : TextLists → ℕ × ℕ → PlainTrace → Bool
has_name texts k t = has_event (text_under texts.tasks k.0) (text_under texts.names k.1) t

-- the trace begins with an event with these numbers
abbrev pub begins_with : TextLists → ℕ × ℕ → PlainTrace → Bool
begins_with texts k t = bytes_eq (text_under texts.tasks k.0) (task_at t.events 0)
    && bytes_eq (text_under texts.names k.1) (event_name_at t.events 0)

-- the numbers are those of the event at an index
pub record IsNameAt (texts : TextLists) (t : PlainTrace) (at : ℕ) (k : ℕ × ℕ) : Type 0 where
  pub known : IsKnown texts k
  pub task : text_under texts.tasks k.0 ≡ task_at t.events at
  pub name : text_under texts.names k.1 ≡ event_name_at t.events at

-- each event has numbers, and there is one
pub record IsNumbered (texts : TextLists) (t : PlainTrace) : Type 0 where
  pub some : 0 < length t.events
  pub each : (at : ℕ) → at < length t.events → (k : ℕ × ℕ) × IsNameAt texts t at k

-- these are the numbers of the events of a trace
pub record AreNames (raw : NumberedTrace) (names : List (ℕ × ℕ)) : Type 0 where
  pub numbered : IsNumbered raw.texts raw.trace
  pub known : All (IsKnown raw.texts) names
  pub exactly : (k : ℕ × ℕ) → IsKnown raw.texts k
      → list_any (is_name k) names ≡ has_name raw.texts k raw.trace
