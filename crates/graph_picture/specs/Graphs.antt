-- The model as a graph in layers.
use Rattle.std.specs.Prelude.{ℕ, ◌≡◌, ◌==◌, ◌++◌, List, [], ◌∷◌, codes, if◌then◌else◌, length}
use Rattle.std.specs.Prelude.{Bool, false, nat_le, true}
use Rattle.std.specs.List.{flat_map}
use Rattle.graph_layers.specs.declared.layout.Layout.{Layout}
use Rattle.graph_layers.specs.declared.place.Place.{Place}
use Rattle.graph_layers.specs.Layouts.{IsLayout}
use Rattle.graph_picture.specs.Arrows.{line_between}
use Rattle.graph_picture.specs.Boxes.{box_if}
use Rattle.graph_picture.specs.Relations.{is_exclusive, pipes_of, relations_of}
use Rattle.graph_picture.specs.Texts.{graph_end, graph_start, markers, too_many}
use Rattle.implied_pairs.specs.Laws.{AreNotImplied}
use Rattle.markup.specs.Parts.{Fixed, Number, parts_text}
use Rattle.page_rows.specs.declared.model_rows.BetweenRow.{BetweenRow}
use Rattle.page_rows.specs.Pages.{PageLists}

-- the class of the picture: of more than 120 arrows each is faint
abbrev pub graph_class : (arrows : ℕ) → List ℕ
graph_class arrows = if nat_le arrows 120 then codes "graph" else codes "graph faint"

-- how the picture begins
unfoldable pub picture_start : (arrows width height : ℕ) → List ℕ
picture_start arrows width height = parts_text
    (Fixed (codes "<svg class=\"") ∷ Fixed (graph_class arrows) ∷ Fixed (codes "\" width=\"")
    ∷ Number width ∷ Fixed (codes "\" height=\"") ∷ Number height
    ∷ Fixed (codes "\" role=\"img\" aria-label=\"What happens before what\">") ∷ [])

-- a relation, a pipeline, and two boxes whose names are mutually exclusive
abbrev pub arrow_text : List Place → ℕ × ℕ → List ℕ
arrow_text places pair =
    line_between places (codes "hb") 75 (codes "\" marker-end=\"url(#arr)\"/>") pair

abbrev pub pipe_text : List Place → ℕ × ℕ → List ℕ
pipe_text places pair =
    line_between places (codes "pipe") 90 (codes "\" marker-end=\"url(#arp)\"/>") pair

abbrev pub exclusive_text : (count : ℕ) → List Place → BetweenRow → List ℕ
exclusive_text count places row =
    if is_exclusive count row
    then line_between places (codes "mx") 60 (codes "\"/>") (row.first, row.second) else []

-- how many arrows stand for how many relations
unfoldable pub counts_text : (boxes arrows relations : ℕ) → List ℕ
counts_text boxes arrows relations = parts_text
    (Number boxes ∷ Fixed (codes " boxes; ") ∷ Number arrows ∷ Fixed (codes " arrows stand for ")
    ∷ Number relations ∷ Fixed (codes " relations.") ∷ [])

-- how many pairs a chain of arrows joins that have no relation, if there are any
abbrev pub joined_text : (joined : ℕ) → List ℕ
joined_text joined = if joined == 0 then [] else parts_text
    (Fixed (codes " Pairs that a chain of arrows joins and that have no relation of their own: ")
    ∷ Number joined ∷ Fixed (codes " (see the matrix).") ∷ [])

-- the lines and the boxes
unfoldable pub shapes_text : PageLists → List Place → (arrows pipes : List (ℕ × ℕ)) → List ℕ
shapes_text p places arrows pipes = flat_map (arrow_text places) arrows
    ++ flat_map (exclusive_text (length p.boxes) places) p.betweens
    ++ flat_map (pipe_text places) pipes ++ flat_map (box_if p places) p.boxes

-- what stands below them
unfoldable pub notes_text : (boxes relations arrows joined : ℕ) → List ℕ
notes_text boxes relations arrows joined = codes "</svg></div><p class=\"note\">"
    ++ counts_text boxes arrows relations ++ joined_text joined

-- the graph of so many relations with this layout and these pipelines
unfoldable pub graph_text : PageLists → (relations : ℕ) → Layout → List (ℕ × ℕ) → List ℕ
graph_text p relations layout pipes = graph_start
    ++ picture_start (length layout.arrows.items) layout.width layout.height ++ markers
    ++ shapes_text p layout.places.items layout.arrows.items pipes
    ++ notes_text (length p.boxes) relations (length layout.arrows.items)
    (length layout.joined.items) ++ graph_end

-- the bytes are the graph of a page, for some layout of its relations and the pipelines that no
-- chain of pipelines implies
pub record IsGraph (p : PageLists) (bytes : List ℕ) : Type 0 where
  pub layout : Layout
  pub laid : IsLayout (length p.boxes) (relations_of (length p.boxes) p.betweens) layout
  pub pipes : List (ℕ × ℕ)
  pub kept : AreNotImplied (pipes_of (length p.boxes) p.boxes p.pipes) pipes
  pub text : bytes
      ≡ graph_text p (length (relations_of (length p.boxes) p.betweens)) layout pipes

-- of at most 128 boxes the graph, of more a note
abbrev pub IsGraphIf : (few : Bool) → PageLists → List ℕ → Type 0
IsGraphIf true p bytes = IsGraph p bytes
IsGraphIf false p bytes = bytes ≡ too_many

abbrev pub IsGraphOrNote : PageLists → List ℕ → Type 0
IsGraphOrNote p bytes = IsGraphIf (nat_le (length p.boxes) 128) p bytes
