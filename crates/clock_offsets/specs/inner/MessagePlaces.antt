-- The places of messages.
use Rattle.std.specs.Prelude.{ℕ, if◌then◌else◌, Bool, Option, Some, None, is_some, List, [], ◌∷◌}
use Rattle.std.specs.Str.{bytes_eq}

-- a message, and its place
pub record MessagePlace : Type 0 where
  pub message : List ℕ
  pub place : ℕ

-- the place is of this message
abbrev pub is_of_message : List ℕ → MessagePlace → Bool
is_of_message message p = bytes_eq p.message message

-- the place that a message has in a list of places
abbrev pub message_place_in : List MessagePlace → List ℕ → Option ℕ
message_place_in [] message = None
message_place_in (p ∷ ps) message = if is_of_message message p then Some p.place else message_place_in ps message

-- the places once a message was given one, which it keeps where it has one already
abbrev pub message_places_with : List MessagePlace → List ℕ → ℕ → List MessagePlace
message_places_with ps message place =
    if is_some (message_place_in ps message) then ps else record { message = message; place = place } ∷ ps
