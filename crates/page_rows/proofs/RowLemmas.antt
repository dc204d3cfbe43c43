-- What a line says, by its text and its fields.
use Rattle.std.proofs.Common.{◌≡◌, ℕ, List, Bool, true, false, Bor, Err, sym, ap, ◌∙◌}
use Rattle.std.specs.Prelude.{if◌then◌else◌}
use Rattle.std.specs.Str.{is_utf8, IsUtf8}
use Rattle.std.proofs.lemmas.Bool.{false_from_ne_true}
use Rattle.std.proofs.lemmas.Str.{IsUtf8-from_is_utf8, is_utf8-from_IsUtf8}
use Rattle.page_rows.specs.declared.why.Why.TheVariants.{NotUtf8}
use Rattle.page_rows.specs.Fields.{line_fields, texts_of}
use Rattle.page_rows.specs.Rows.{row_of_fields, row_said}

by_test : (line : List ℕ) (b : Bool) → is_utf8 line ≡ b → row_said line ≡ (if b then row_of_fields (line_fields line) else Err NotUtf8)
by_test line b e = ap (λ t. if t then row_of_fields (line_fields line) else Err NotUtf8) e

-- a line that is no UTF-8
pub no_text : (line : List ℕ) → (IsUtf8 line → ⊥) → row_said line ≡ Err NotUtf8
no_text line h = by_test line false (false_from_ne_true (is_utf8 line) (λ e. h (IsUtf8-from_is_utf8 line e)))

-- a line that is a text with these fields
pub text_says : (line text : List ℕ) (fields : List (Bor (List ℕ))) → (text ≡ line) × IsUtf8 line → texts_of fields ≡ line_fields text → row_said line ≡ row_of_fields (texts_of fields)
text_says line text fields h e =
    let whole : texts_of fields ≡ line_fields line = e ∙ ap line_fields h.0 in
    by_test line true (is_utf8-from_IsUtf8 line h.1) ∙ ap row_of_fields (sym whole)
