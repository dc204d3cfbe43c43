-- Tags, which OpenTelemetry calls attributes: a list of keys and values.
use Rattle.std.specs.Prelude.{ℕ, ◌==◌, ◌≡◌, List, [], ◌∷◌, length, Bool, Option, Some, None}
use Rattle.std.specs.Prelude.{option_and_then, if◌then◌else◌}
use Rattle.std.specs.Option.{option_or}
use Rattle.std.specs.Str.{bytes_eq}
use Rattle.json.specs.Json.{Json}
use Rattle.json.specs.Find.{as_str}
use Rattle.span_text.specs.declared.member.Member.TheVariants as members
use Rattle.span_text.specs.declared.tags.TagForm.{TagForm}
use Rattle.span_text.specs.declared.tags.TagForm.TheVariants.{Plain, Kinds}
use Rattle.span_text.specs.Members.{given, unless_empty}

-- the text that a value is, where it is not empty
abbrev pub full_text : Json → Option (List ℕ)
full_text v = option_and_then unless_empty (as_str v)

-- the text of a value: itself, or its member for texts
abbrev pub value_text : TagForm → Json → Option (List ℕ)
value_text Plain v = full_text v
value_text Kinds v = option_and_then full_text (given members.StringValue v)

-- the text of a tag
abbrev pub tag_text : TagForm → Json → Option (List ℕ)
tag_text form t = option_and_then (value_text form) (given members.Value t)

-- the text of a tag, where this is its key
abbrev pub text_if_keyed : TagForm → List ℕ → Json → List ℕ → Option (List ℕ)
text_if_keyed form key t found = if bytes_eq found key then tag_text form t else None

abbrev pub keyed_text : TagForm → List ℕ → Json → Option (List ℕ)
keyed_text form key t =
    option_and_then (text_if_keyed form key t) (option_and_then as_str (given members.Key t))

-- the text of the first tag with this key that has one
abbrev pub tag : TagForm → List ℕ → List Json → Option (List ℕ)
tag form key [] = None
tag form key (t ∷ ts) = option_or (keyed_text form key t) (tag form key ts)
