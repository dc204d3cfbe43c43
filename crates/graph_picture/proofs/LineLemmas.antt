-- Lines, and which rows they are of.
use Rattle.std.proofs.Common.{◌≡◌, ◌⊎◌, ℕ, ◌+◌, ◌/◌, ◌<◌, ◌≤◌, ◌==◌, ◌&&◌, ◌∷◌, [], Bool, true, false, List, length, drop, get_or, refl, sym, ap, ◌∙◌, arith, inl, inr, subst, suc}
use Rattle.std.specs.Prelude.{if◌then◌else◌, bytes_eq, nat_lt, nat_le, not}
use Rattle.std.proofs.Math.Seq.{drop-cons}
use Rattle.std.proofs.lemmas.Bool.{ltb-true}
use Rattle.std.proofs.lemmas.List.{drop_all}
use Rattle.std.proofs.lemmas.List.Elements.{All-append, All-cons, All-nil}
use Rattle.implied_pairs.specs.Pairs.{AreBelow}
use Rattle.page_rows.specs.declared.model_rows.BetweenRow.{BetweenRow}
use Rattle.page_rows.specs.declared.model_rows.BoxRow.{BoxRow}
use Rattle.page_rows.specs.declared.model_rows.PipeRow.{PipeRow}
use Rattle.page_rows.specs.Pages.{PageLists}
use Rattle.picture_parts.specs.Places.{PartIsOnScale}
use Rattle.graph_picture.specs.Arrows.{EndsAreAtEdges, LinesAreWithin, enters_at, leaves_at}
use Rattle.graph_picture.specs.Boxes.{SharesAreWithin, box_time}
use Rattle.graph_picture.specs.Graphs.{IsGraph, IsGraphIf, IsGraphOrNote}
use Rattle.graph_picture.specs.Texts.{too_many}
use Rattle.graph_picture.specs.Relations.{are_boxes, box_of, is_relation, pipe_of, pipes_of, relation_of, relations_of}

-- ---- the ends of lines
leaves_cases : (b : Bool) (y : ℕ) → ((if b then y else y + 34) ≡ y) ⊎ ((if b then y else y + 34) ≡ y + 34)
leaves_cases true y = inl refl
leaves_cases false y = inr refl

pub at_edges : EndsAreAtEdges
at_edges p q = (leaves_cases (nat_lt q.y p.y) p.y, leaves_cases (nat_lt p.y q.y) q.y)

low_end : (b : Bool) (y height : ℕ) → y + 34 + 30 ≤ height → (if b then y else y + 34) ≤ y + 34
low_end true y height h = omega arith
low_end false y height h = omega arith

turn_low : (b : Bool) (e y z height : ℕ) → e + 34 + 30 ≤ height → y ≤ height → z ≤ height → (if b then e + 54 else (y + z) / 2) ≤ height
turn_low true e y z height g h k = omega (arith, g)
turn_low false e y z height g h k = omega (arith, h, k)

pub within : LinesAreWithin
within p q x width height small pw qw ph qh =
    let leaves = low_end (nat_lt q.y p.y) p.y height ph in
    let enters = low_end (nat_lt p.y q.y) q.y height qh in (
      omega (arith, small, pw),
      omega (arith, small, qw),
      omega (arith, leaves, ph),
      turn_low (p.y == q.y) p.y (leaves_at p q) (enters_at p q) height ph (omega (arith, leaves, ph)) (omega (arith, enters, qh)),
      omega (arith, enters, qh),
    )

pub shares_within : PartIsOnScale → SharesAreWithin
shares_within on_scale p box x = omega (arith, on_scale 148 (box_time p box) p.report.critical)

-- ---- pairs of boxes are below the count
and_first : (x y : Bool) → (x && y) ≡ true → x ≡ true
and_first true y e = refl
and_first false y e = e

and_second : (x y : Bool) → (x && y) ≡ true → y ≡ true
and_second true y e = e
and_second false y e = let g : false ≡ true = e in cc

ltb_lt : (x y : ℕ) → nat_lt x y ≡ true → x < y
ltb_lt x y e = ltb-true x y e

abbrev Below : ℕ → ℕ × ℕ → Type 0
Below count pair = (pair.0 < count) × (pair.1 < count)

boxes_below : (count first second : ℕ) → are_boxes count first second ≡ true → Below count (first, second)
boxes_below count first second e =
    let both = and_first (nat_lt first count && nat_lt second count) (not (first == second)) e in
    let a = and_first (nat_lt first count) (nat_lt second count) both in
    let b = and_second (nat_lt first count) (nat_lt second count) both in
    (ltb_lt first count a, ltb_lt second count b)

if_below : (count first second : ℕ) (b : Bool) → (b ≡ true → are_boxes count first second ≡ true) → AreBelow count (if b then (first, second) ∷ [] else [])
if_below count first second true h = All-cons (Below count) (first, second) [] (boxes_below count first second (h refl)) (All-nil (Below count))
if_below count first second false h = All-nil (Below count)

pub relations_below : (count : ℕ) (rows : List BetweenRow) → AreBelow count (relations_of count rows)
relations_below count [] = All-nil (Below count)
relations_below count (row ∷ rows) = All-append (Below count) (relation_of count row) (relations_of count rows)
    (if_below count row.first row.second (is_relation count row) (λ e. and_first (are_boxes count row.first row.second) (nat_lt 0 row.both) (and_first (are_boxes count row.first row.second && nat_lt 0 row.both) (nat_le row.both row.before) e))) (relations_below count rows)

pub pipes_below : (count : ℕ) (boxes : List BoxRow) (rows : List PipeRow) → AreBelow count (pipes_of count boxes rows)
pipes_below count boxes [] = All-nil (Below count)
pipes_below count boxes (row ∷ rows) = All-append (Below count) (pipe_of count boxes row) (pipes_of count boxes rows)
    (if_below count (box_of count boxes row.first) (box_of count boxes row.second) (are_boxes count (box_of count boxes row.first) (box_of count boxes row.second)) (λ e. e)) (pipes_below count boxes rows)

-- ---- the first box of a task
module _ (count : ℕ) (boxes : List BoxRow) (i : ℕ) (box : BoxRow) (task : List ℕ) (lt : i < length boxes) (is : box ≡ get_or boxes i box) where
  add_one_is : i + 1 ≡ suc i
  add_one_is = omega arith

  from_here : box_of count (drop i boxes) task ≡ (if bytes_eq box.name.0 task then box.number else box_of count (drop (i + 1) boxes) task)
  from_here = ap (λ (bs : List BoxRow). box_of count bs task) (drop-cons boxes i box lt)
      ∙ ap (λ (b : BoxRow). if bytes_eq b.name.0 task then b.number else box_of count (drop (suc i) boxes) task) (sym is)
      ∙ ap (λ k. if bytes_eq box.name.0 task then box.number else box_of count (drop k boxes) task) (sym add_one_is)

  pub box_later : bytes_eq box.name.0 task ≡ false → box_of count (drop i boxes) task ≡ box_of count (drop (i + 1) boxes) task
  box_later e = from_here ∙ ap (λ b. if b then box.number else box_of count (drop (i + 1) boxes) task) e

  pub box_here : bytes_eq box.name.0 task ≡ true → box_of count (drop i boxes) task ≡ box.number
  box_here e = from_here ∙ ap (λ b. if b then box.number else box_of count (drop (i + 1) boxes) task) e

pub no_box : (count : ℕ) (boxes : List BoxRow) (i : ℕ) (task : List ℕ) → length boxes ≤ i → box_of count (drop i boxes) task ≡ count
no_box count boxes i task le = ap (λ (bs : List BoxRow). box_of count bs task) (drop_all i boxes le)

-- ---- the graph, or the note
pub graph_few : (p : PageLists) (text : List ℕ) → nat_le (length p.boxes) 128 ≡ true → IsGraph p text → IsGraphOrNote p text
graph_few p text e g = subst (λ (b : Bool). IsGraphIf b p text) (sym e) g

pub graph_many : (p : PageLists) → nat_le (length p.boxes) 128 ≡ false → IsGraphOrNote p too_many
graph_many p e = subst (λ (b : Bool). IsGraphIf b p too_many) (sym e) refl
