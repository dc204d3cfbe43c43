-- What is printed of lines.
use Rattle.std.proofs.Common.{◌≡◌, ◌<◌, ◌||◌, ◌&&◌, not, ℕ, List, [], ◌∷◌, ◌++◌, Bool, true, false, length, ap, arith, refl, ◌∙◌, inl, inr}
use Rattle.std.specs.Prelude.{filter, if◌then◌else◌, is_ok, nat_le}
use Rattle.std.specs.List.{flat_map}
use Rattle.std.proofs.lemmas.Bool.Decides.{leb_tells}
use Rattle.std.proofs.lemmas.Grind.{flat_map-append}
use Rattle.std.proofs.lemmas.List.Elements.{filter-append}
use Rattle.event_lines.specs.Cut.{input_lines, is_blank_line}
use Rattle.event_lines.specs.LineResults.{line_result}
use Rattle.mystery_io.specs.Input.{input_limit}
use Rattle.mystery_io.specs.Readings.{Reading}
use Rattle.line_clean.specs.Lines.{clean_text, is_good, line_row, lines_read}

pub clean_append : (a b : List (List ℕ)) → clean_text (a ++ b) ≡ clean_text a ++ clean_text b
clean_append a b = ap (flat_map line_row) (filter-append is_good a b) ∙ flat_map-append line_row (filter is_good a) (filter is_good b)

good_by : (line : List ℕ) (lines : List (List ℕ)) (b : Bool) → flat_map line_row (if b then line ∷ filter is_good lines else filter is_good lines) ≡ (if b then line_row line else []) ++ clean_text lines
good_by line lines true = refl
good_by line lines false = refl

pub clean_cons : (line : List ℕ) (lines : List (List ℕ)) → clean_text (line ∷ lines) ≡ (if is_good line then line_row line else []) ++ clean_text lines
clean_cons line lines = good_by line lines (is_good line)

-- a line that is not good is left out
pub clean_bad : (line : List ℕ) (lines : List (List ℕ)) → is_good line ≡ false → clean_text (line ∷ lines) ≡ clean_text lines
clean_bad line lines bad = clean_cons line lines ∙ ap (λ (b : Bool). (if b then line_row line else []) ++ clean_text lines) bad

blank_by : (b r : Bool) → b ≡ true → (not b && r) ≡ false
blank_by true r e = refl
blank_by false r e = cc

kept_by : (line : List ℕ) (b r : Bool) → (b || (not b && r)) ≡ true → (if not b && r then line_row line else []) ≡ (if b then [] else line_row line)
kept_by line true r h = refl
kept_by line false true h = refl
kept_by line false false h = cc

-- of a line that is good or blank only a blank one is left out
pub clean_kept : (line : List ℕ) (lines : List (List ℕ)) → (is_blank_line line || is_good line) ≡ true → clean_text (line ∷ lines) ≡ (if is_blank_line line then [] else line_row line) ++ clean_text lines
clean_kept line lines kept =
    clean_cons line lines ∙ ap (λ (row : List ℕ). row ++ clean_text lines) (kept_by line (is_blank_line line) (nat_le (length line) input_limit && is_ok (line_result 1 line)) kept)

long_by : (b r : Bool) (long : Bool) → long ≡ false → (not b && (long && r)) ≡ false
long_by true r true e = cc
long_by true r false e = refl
long_by false r true e = cc
long_by false r false e = refl

not_le : (a b : ℕ) → b < a → nat_le a b ≡ false
not_le a b lt = elim (leb_tells a b) [
  | inl h ↦ absurd (omega (arith, h.1, lt))
  | inr h ↦ h.0
]

-- a line that is too long is not good
pub long_bad : (line : List ℕ) → input_limit < length line → is_good line ≡ false
long_bad line long = long_by (is_blank_line line) (is_ok (line_result 1 line)) (nat_le (length line) input_limit) (not_le (length line) input_limit long)

-- what is printed of one file more
pub clean_push : (readings : List Reading) (r : Reading) → clean_text (lines_read (readings ++ r ∷ [])) ≡ clean_text (lines_read readings) ++ clean_text (lines_read (r ∷ []))
clean_push readings r = ap clean_text (flat_map-append (λ (q : Reading). input_lines q.bytes) readings (r ∷ [])) ∙ clean_append (lines_read readings) (lines_read (r ∷ []))
