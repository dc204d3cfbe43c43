-- Whole numbers, as numbers or as texts of their digits.
use Rattle.std.specs.Prelude.{ℕ, ◌^◌, ◌&&◌, List, length, Bool, nat_lt, Option, Some, None}
use Rattle.std.specs.Prelude.{Result, Ok, ok_or, if◌then◌else◌}
use Rattle.std.specs.List.{list_all}
use Rattle.std.specs.Option.{option_map_or}
use Rattle.std.specs.Char.{is_ascii_digit}
use Rattle.std.specs.Str.Parse.{digits_value}
use Rattle.json.specs.Json.{Json, null, boolean, number, string, array, object}
use Rattle.span_text.specs.declared.member.Member.{Member}
use Rattle.span_text.specs.declared.why.Why.{Why}
use Rattle.span_text.specs.declared.why.Why.TheVariants.{Bad}
use Rattle.span_text.specs.Members.{given, required}
use Rattle.span_text.specs.Outcomes.{◌>>=◌}

-- decimal digits alone, at least one
abbrev pub is_decimal : List ℕ → Bool
is_decimal text = nat_lt 0 (length text) && list_all is_ascii_digit text

-- the number that the digits write, where it fits 64 bits
abbrev pub whole_number : List ℕ → Option ℕ
whole_number text =
    if is_decimal text && nat_lt (digits_value 10 text) (2 ^ 64) then Some (digits_value 10 text)
    else None

-- the whole number that a value is, without sign, fraction or exponent
abbrev pub whole_value : Json → Option ℕ
whole_value null = None
whole_value (boolean b) = None
whole_value (number text) = whole_number text
whole_value (string text) = whole_number text
whole_value (array js) = None
whole_value (object ms) = None

-- a whole number that must be there
abbrev pub required_whole : Member → Json → Result ℕ Why
required_whole m j = required m j >>= λ v. ok_or (whole_value v) (Bad m)

-- a whole number that may be absent, and is 0 then
abbrev pub optional_whole : Member → Json → Result ℕ Why
optional_whole m j = option_map_or (λ v. ok_or (whole_value v) (Bad m)) (given m j) (Ok 0)
