-- The ids of traces and spans.
use Rattle.std.specs.Prelude.{ℕ, ◌==◌, ◌&&◌, List, length, map, Bool, not, nat_le}
use Rattle.std.specs.Prelude.{Option, Some, None, Result, Ok, Err, if◌then◌else◌}
use Rattle.std.specs.List.{list_all}
use Rattle.std.specs.Option.{option_map_or}
use Rattle.std.specs.Char.{is_ascii_hexdigit, to_ascii_lowercase}
use Rattle.json.specs.Json.{Json}
use Rattle.span_text.specs.declared.member.Member.{Member}
use Rattle.span_text.specs.declared.why.Why.{Why}
use Rattle.span_text.specs.declared.why.Why.TheVariants.{Bad}
use Rattle.span_text.specs.Members.{given, text_of, required_text}
use Rattle.span_text.specs.Outcomes.{◌>>=◌}

-- the digit 0
abbrev pub is_zero : ℕ → Bool
is_zero digit = digit == 48

-- an id: at least and at most so many hexadecimal digits, of which one is not 0
abbrev pub is_id : ℕ → ℕ → List ℕ → Bool
is_id least most text =
    nat_le least (length text) && nat_le (length text) most && list_all is_ascii_hexdigit text
    && not (list_all is_zero text)

-- the id that the text of a member is, in lower case
abbrev pub id_of : ℕ → ℕ → Member → List ℕ → Result (List ℕ) Why
id_of least most m text =
    if is_id least most text then Ok (map to_ascii_lowercase text) else Err (Bad m)

-- an id that must be there
unfoldable pub required_id : ℕ → ℕ → Member → Json → Result (List ℕ) Why
required_id least most m j = do
  text ← required_text m j
  id_of least most m text

-- an id, or none where the text is empty
abbrev pub id_unless_empty : ℕ → ℕ → Member → List ℕ → Result (Option (List ℕ)) Why
id_unless_empty least most m text =
    if length text == 0 then Ok None else (id_of least most m text >>= λ id. Ok (Some id))

-- an id that may be absent
abbrev pub optional_id : ℕ → ℕ → Member → Json → Result (Option (List ℕ)) Why
optional_id least most m j =
    option_map_or (λ v. text_of m v >>= id_unless_empty least most m) (given m j) (Ok None)
