-- The JSON value of a line, from what the reader answers.
use Rattle.std.proofs.Common.{◌≡◌, ℕ, List, None, Bool, true, false, ◌∙◌, refl}
use Rattle.std.specs.Str.{IsUtf8, is_utf8}
use Rattle.std.proofs.lemmas.Str.{IsUtf8-from_is_utf8, is_utf8-from_IsUtf8}
use Rattle.serde_json.specs.Read.{read}
use Rattle.event_lines.specs.LineResults.{json_value}

pub json_value-utf8 : (line : List ℕ) → IsUtf8 line → json_value line ≡ read line
json_value-utf8 line utf8 = let e : is_utf8 line ≡ true = is_utf8-from_IsUtf8 line utf8 in rw e refl

by_utf8 : (line : List ℕ) (b : Bool) → is_utf8 line ≡ b → (IsUtf8 line → read line ≡ None) → json_value line ≡ None
by_utf8 line true e h = json_value-utf8 line (IsUtf8-from_is_utf8 line e) ∙ h (IsUtf8-from_is_utf8 line e)
by_utf8 line false e h = rw e refl

-- a line that the reader refuses has no value
pub json_value-refused : (line : List ℕ) → (IsUtf8 line → read line ≡ None) → json_value line ≡ None
json_value-refused line h = by_utf8 line (is_utf8 line) refl h
