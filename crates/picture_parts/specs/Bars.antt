-- The markup of bars.
use Rattle.std.specs.Prelude.{ℕ, [], ◌∷◌, List, codes}
use Rattle.markup.specs.Parts.{Fixed, Number, Place, parts_text}
use Rattle.picture_parts.specs.declared.span.Span.{Span}

-- a bar of a class, across by places and down by pixels
unfoldable pub bar_text : (class : List ℕ) → Span → (y height : ℕ) → List ℕ
bar_text class span y height = parts_text
    (Fixed (codes "<rect class=\"") ∷ Fixed class ∷ Fixed (codes "\" x=\"") ∷ Place span.x
    ∷ Fixed (codes "\" width=\"") ∷ Place span.width ∷ Fixed (codes "\" y=\"") ∷ Number y
    ∷ Fixed (codes "\" height=\"") ∷ Number height ∷ Fixed (codes "\"/>") ∷ [])

-- a text from a place on, above a line of pixels down, that is cut at the end of its bar
unfoldable pub caption_start : Span → (height y : ℕ) → List ℕ
caption_start span height y = parts_text
    (Fixed (codes "<svg x=\"") ∷ Place span.x ∷ Fixed (codes "\" width=\"") ∷ Place span.width
    ∷ Fixed (codes "\" height=\"") ∷ Number height
    ∷ Fixed (codes "\"><text class=\"in\" x=\"5\" y=\"") ∷ Number y ∷ Fixed (codes "\">") ∷ [])
