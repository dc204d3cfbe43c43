-- Why an object is no good event line: the first reason that holds.
use Rattle.std.specs.Prelude.{ℕ, ◌==◌, ◌||◌, ◌&&◌, List, [], ◌∷◌, ◌++◌, length, codes}
use Rattle.std.specs.Prelude.{Bool, true, false, not, nat_lt, if◌then◌else◌, Option, Some, None}
use Rattle.std.specs.Option.{option_map_or}
use Rattle.std.specs.List.{list_any}
use Rattle.serde_json.specs.Data.{Data}
use Rattle.event_lines.specs.declared.why.Why.{Why}
use Rattle.event_lines.specs.declared.why.Why.TheVariants.{Missing, WrongKind, OutOfRange, BadText}
use Rattle.event_lines.specs.Members.{has_member, is_given, text_at, is_text_at}
use Rattle.event_lines.specs.Members.{is_whole_at, number_at}
use Rattle.event_lines.specs.TimeUnits.{time_unit_of, time_member, latest_in}

-- the texts that an event line must have
abbrev pub required_texts : List (List ℕ)
required_texts = codes "request" ∷ codes "machine" ∷ codes "task" ∷ codes "event" ∷ []

-- the texts that it may have
abbrev pub optional_texts : List (List ℕ)
optional_texts = codes "send" ∷ codes "recv" ∷ []

-- the member that has the time
abbrev pub time_name : Data → List ℕ
time_name d = time_member (time_unit_of d)

-- a required member is absent
abbrev pub lacks_member : Data → Bool
lacks_member d =
    list_any (λ name. not (has_member name d)) required_texts || not (has_member (time_name d) d)

-- a required text is no text, the time is no whole number, or an optional member is given and is
-- no text
abbrev pub has_wrong_kind : Data → Bool
has_wrong_kind d =
    list_any (λ name. not (is_text_at name d)) required_texts
    || not (is_whole_at (time_name d) d)
    || list_any (λ name. is_given name d && not (is_text_at name d)) optional_texts

-- the time is no whole number from 0 to the latest time
abbrev pub is_out_of_range : Data → Bool
is_out_of_range d =
    option_map_or (nat_lt (latest_in (time_unit_of d))) (number_at (time_name d) d) true

-- an ASCII control character
abbrev pub is_control_character : ℕ → Bool
is_control_character byte = nat_lt byte 32 || byte == 127

-- a text that is empty, is longer than 64 bytes, or has a control character
abbrev pub is_bad_text : List ℕ → Bool
is_bad_text text = length text == 0 || nat_lt 64 (length text) || list_any is_control_character text

-- one of the line's texts is bad
abbrev pub has_bad_text : Data → Bool
has_bad_text d =
    list_any (λ name. option_map_or is_bad_text (text_at name d) false)
    (required_texts ++ optional_texts)

-- the first reason that holds
abbrev pub event_line_fault : Data → Option Why
event_line_fault d =
    if lacks_member d then Some Missing else (
    if has_wrong_kind d then Some WrongKind else (
    if is_out_of_range d then Some OutOfRange else (
    if has_bad_text d then Some BadText else None)))
