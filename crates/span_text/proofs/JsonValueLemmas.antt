-- The JSON value of bytes, from what the reader answers.
use Rattle.std.proofs.Common.{◌≡◌, ◌↔◌, ℕ, List, None, Bool, true, false, is_some, ◌∙◌, refl, sym, ap}
use Rattle.std.specs.Str.{IsUtf8, is_utf8}
use Rattle.std.proofs.lemmas.Str.{IsUtf8-from_is_utf8, is_utf8-from_IsUtf8}
use Rattle.json.specs.Json.{document}
use Rattle.span_text.specs.Parsing.{json_of}

pub json_of-utf8 : (bytes : List ℕ) → IsUtf8 bytes → json_of bytes ≡ document bytes
json_of-utf8 bytes utf8 = let e : is_utf8 bytes ≡ true = is_utf8-from_IsUtf8 bytes utf8 in rw e refl

by_utf8 : (bytes : List ℕ) (b : Bool) → is_utf8 bytes ≡ b → (IsUtf8 bytes → document bytes ≡ None) → json_of bytes ≡ None
by_utf8 bytes true e h = json_of-utf8 bytes (IsUtf8-from_is_utf8 bytes e) ∙ h (IsUtf8-from_is_utf8 bytes e)
by_utf8 bytes false e h = rw e refl

-- bytes that the reader refuses have no value
pub json_of-refused : (bytes : List ℕ) → (IsUtf8 bytes → document bytes ≡ None) → json_of bytes ≡ None
json_of-refused bytes h = by_utf8 bytes (is_utf8 bytes) refl h

same : (a b : Bool) → (a ≡ true) ↔ (b ≡ true) → a ≡ b
same true b h = sym (h.0 refl)
same false true h = h.1 refl
same false false h = refl

-- text that is checked is a value exactly where the check says so
pub json_of-checked : (bytes text : List ℕ) (b : Bool) → text ≡ bytes → IsUtf8 bytes → (b ≡ true) ↔ (is_some (document text) ≡ true) → b ≡ is_some (json_of bytes)
json_of-checked bytes text b e utf8 h = same b (is_some (document text)) h ∙ ap (λ t. is_some (document t)) e ∙ ap is_some (sym (json_of-utf8 bytes utf8))
