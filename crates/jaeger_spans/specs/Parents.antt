-- The parent of a span: Jaeger, model/json/model.go: Reference. Of the references into the same
-- trace the first to a parent that waits counts, else the first.
use Rattle.std.specs.Prelude.{ℕ, ◌&&◌, List, codes, map, find, Bool, false, not, Option, Some, None}
use Rattle.std.specs.Prelude.{Result, Ok, option_and_then}
use Rattle.std.specs.Option.{option_map_or, option_or}
use Rattle.std.specs.Char.{to_ascii_lowercase}
use Rattle.std.specs.Str.{bytes_eq}
use Rattle.json.specs.Json.{Json}
use Rattle.json.specs.Find.{as_str}
use Rattle.span_text.specs.declared.member.Member.{Member}
use Rattle.span_text.specs.declared.member.Member.TheVariants as members
use Rattle.span_text.specs.declared.why.Why.{Why}
use Rattle.span_text.specs.Ids.{required_id}
use Rattle.span_text.specs.Members.{given, objects}
use Rattle.span_text.specs.Outcomes.{◌>>=◌}

-- two ids are the same, whatever the case of their letters
abbrev pub is_same_id : List ℕ → List ℕ → Bool
is_same_id a b = bytes_eq (map to_ascii_lowercase a) (map to_ascii_lowercase b)

-- the text of a member passes
abbrev pub has_text : Member → (List ℕ → Bool) → Json → Bool
has_text m test j = option_map_or test (option_and_then as_str (given m j)) false

-- a reference into this trace
abbrev pub is_of_trace : List ℕ → Json → Bool
is_of_trace trace reference =
    has_text members.TraceIdOfJaeger (λ text. is_same_id text trace) reference

-- a reference to a parent that waits for the span
abbrev pub is_child : Json → Bool
is_child reference = has_text members.RefType (λ text. bytes_eq text (codes "CHILD_OF")) reference

-- the reference to the parent
abbrev pub parent_reference : List ℕ → List Json → Option Json
parent_reference trace references =
    option_or (find (λ r. is_of_trace trace r && is_child r) references)
    (find (is_of_trace trace) references)

-- a parent: its id, and whether the span follows from it, so that it does not wait
pub record Parent : Type 0 where
  pub id : List ℕ
  pub follows : Bool

-- the parent that a reference is to
unfoldable pub parent_of : Json → Result (Option Parent) Why
parent_of reference = do
  id ← required_id 1 16 members.SpanIdOfJaeger reference
  Ok (Some (record { id = id; follows = not (is_child reference) }))

-- the parent of a span of this trace
unfoldable pub parent_at : List ℕ → Json → Result (Option Parent) Why
parent_at trace span = do
  references ← objects members.References span
  option_map_or parent_of (parent_reference trace references) (Ok None)
