-- When a field is a text.
use Rattle.std.proofs.Common.{◌≡◌, ℕ, List, Bool, true, false, Some, None, refl}
use Rattle.std.specs.Str.{IsUtf8, is_utf8}
use Rattle.std.proofs.lemmas.Str.{IsUtf8-from_is_utf8, is_utf8-from_IsUtf8}
use Rattle.event_lines.specs.EventFaults.{is_bad_text}
use Rattle.certificates.specs.Claims.{text_of}

-- bytes that are not UTF-8 are none
pub not_utf8 : (field : List ℕ) → (IsUtf8 field → ⊥) → None ≡ text_of field
not_utf8 field h = by (is_utf8 field) refl
  where
    by : (b : Bool) → is_utf8 field ≡ b → None ≡ text_of field
    by true e = absurd (h (IsUtf8-from_is_utf8 field e))
    by false e = rw e refl

-- a bad text is none
pub bad : (field : List ℕ) → IsUtf8 field → is_bad_text field ≡ true → None ≡ text_of field
bad field utf8 b = rw (is_utf8-from_IsUtf8 field utf8, b) refl

-- a good text is itself
pub good : (field : List ℕ) → IsUtf8 field → is_bad_text field ≡ false → Some field ≡ text_of field
good field utf8 b = rw (is_utf8-from_IsUtf8 field utf8, b) refl
