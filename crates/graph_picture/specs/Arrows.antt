-- Lines from one box to another.
use Rattle.std.specs.Prelude.{ℕ, ◌≡◌, ◌⊎◌, ◌+◌, ◌/◌, ◌<◌, ◌≤◌, ◌==◌, List, [], ◌∷◌, codes}
use Rattle.std.specs.Prelude.{if◌then◌else◌, nat_lt}
use Rattle.graph_layers.specs.declared.place.Place.{Place}
use Rattle.graph_layers.specs.Places.{box_height, box_width, layer_gap, place_at}
use Rattle.markup.specs.Parts.{Fixed, Number, parts_text}

-- where a line leaves a box: at its lower edge, or at its upper one if it leads up
abbrev pub leaves_at : Place → Place → ℕ
leaves_at p q = if nat_lt q.y p.y then p.y else p.y + 34

-- where it enters the other: at its upper edge, or at its lower one if it does not lead down
abbrev pub enters_at : Place → Place → ℕ
enters_at p q = if nat_lt p.y q.y then q.y else q.y + 34

-- the height at which it turns: half way, and below the row where it stays in one
abbrev pub turns_at : Place → Place → ℕ
turns_at p q =
    if p.y == q.y then p.y + 54 else (leaves_at p q + enters_at p q) / 2

-- a line of a class, so far from the left edges of its boxes, and what follows it
unfoldable pub line_text : (class : List ℕ) → (x : ℕ) → (end : List ℕ) → Place → Place → List ℕ
line_text class x end p q = parts_text
    (Fixed (codes "<path class=\"") ∷ Fixed class ∷ Fixed (codes "\" d=\"M") ∷ Number (p.x + x)
    ∷ Fixed (codes " ") ∷ Number (leaves_at p q) ∷ Fixed (codes "C") ∷ Number (p.x + x)
    ∷ Fixed (codes " ") ∷ Number (turns_at p q) ∷ Fixed (codes " ") ∷ Number (q.x + x)
    ∷ Fixed (codes " ") ∷ Number (turns_at p q) ∷ Fixed (codes " ") ∷ Number (q.x + x)
    ∷ Fixed (codes " ") ∷ Number (enters_at p q) ∷ Fixed end ∷ [])

-- the line between two boxes
abbrev pub line_between : List Place → (class : List ℕ) → (x : ℕ) → (end : List ℕ) → ℕ × ℕ → List ℕ
line_between places class x end pair =
    line_text class x end (place_at places pair.0) (place_at places pair.1)

-- the ends of a line are at edges of its boxes
abbrev pub EndsAreAtEdges : Type 0
EndsAreAtEdges = (p q : Place)
    → ((leaves_at p q ≡ p.y) ⊎ (leaves_at p q ≡ p.y + box_height))
    × ((enters_at p q ≡ q.y) ⊎ (enters_at p q ≡ q.y + box_height))

-- a line is within a picture that has room for both boxes and a gap below
abbrev pub LinesAreWithin : Type 0
LinesAreWithin = (p q : Place) (x width height : ℕ) → x ≤ box_width
    → p.x + box_width ≤ width → q.x + box_width ≤ width
    → p.y + box_height + layer_gap ≤ height → q.y + box_height + layer_gap ≤ height
    → (p.x + x ≤ width) × (q.x + x ≤ width) × (leaves_at p q ≤ height)
    × (turns_at p q ≤ height) × (enters_at p q ≤ height)
