-- The members of a JSON object, by name.
use Rattle.std.specs.Prelude.{ℕ, ◌||◌, List, Bool, false, Option, is_some, is_none, option_and_then}
use Rattle.std.specs.Option.{option_map_or}
use Rattle.serde_json.specs.Data.{Data}
use Rattle.serde_json.specs.Find.{get, as_str, as_number, as_u64, as_i64, as_null}

-- the object has the member
abbrev pub has_member : List ℕ → Data → Bool
has_member name d = is_some (get name d)

-- the object has the member, and its value is not null
abbrev pub is_given : List ℕ → Data → Bool
is_given name d = option_map_or (λ member. is_none (as_null member)) (get name d) false

-- the member's text
abbrev pub text_at : List ℕ → Data → Option (List ℕ)
text_at name d = option_and_then as_str (get name d)

-- the member is a text
abbrev pub is_text_at : List ℕ → Data → Bool
is_text_at name d = is_some (text_at name d)

-- a whole number that fits 64 bits, signed or unsigned
abbrev pub is_whole_number : Data → Bool
is_whole_number d =
    is_some (option_and_then as_u64 (as_number d)) || is_some (option_and_then as_i64 (as_number d))

-- the member is such a number
abbrev pub is_whole_at : List ℕ → Data → Bool
is_whole_at name d = option_map_or is_whole_number (get name d) false

-- the member's number, where it is whole and not below 0
abbrev pub number_at : List ℕ → Data → Option ℕ
number_at name d = option_and_then as_u64 (option_and_then as_number (get name d))
