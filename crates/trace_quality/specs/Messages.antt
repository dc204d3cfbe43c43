-- Messages of a trace that have one end alone.
use Rattle.std.specs.Prelude.{ℕ, List, Bool, false, count_by, is_some, not, Option}
use Rattle.std.specs.List.{list_any}
use Rattle.std.specs.Option.{option_map_or}
use Rattle.std.specs.Str.{bytes_eq}

-- there is a message, and it is this one
abbrev pub is_message : List ℕ → Option (List ℕ) → Bool
is_message text message = option_map_or (bytes_eq text) message false

-- the message stands among these
abbrev pub is_among : List (Option (List ℕ)) → List ℕ → Bool
is_among others text = list_any (is_message text) others

-- there is a message, and it is not among the others
abbrev pub is_alone : List (Option (List ℕ)) → Option (List ℕ) → Bool
is_alone others message = option_map_or (λ text. not (is_among others text)) message false

-- how many messages there are, and how many of them are not among the others
abbrev pub count_messages : List (Option (List ℕ)) → ℕ
count_messages messages = count_by is_some messages

abbrev pub count_alone : List (Option (List ℕ)) → List (Option (List ℕ)) → ℕ
count_alone others messages = count_by (is_alone others) messages
