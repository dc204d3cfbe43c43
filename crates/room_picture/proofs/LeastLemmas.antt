-- The least time of rows, one after another.
use Rattle.std.proofs.Common.{◌≡◌, ℕ, suc, ◌<◌, ◌≤◌, ◌+◌, List, [], ◌∷◌, length, drop, get_or, sym, ap, ◌∙◌, arith}
use Rattle.std.specs.Prelude.{min}
use Rattle.std.proofs.Math.Seq.{drop-cons}
use Rattle.std.proofs.lemmas.List.{drop_all}
use Rattle.page_rows.specs.declared.gain_rows.RoomRow.{RoomRow}
use Rattle.room_picture.specs.Rooms.{least_of, row_least}

pub least_next : (full : ℕ) (rows : List RoomRow) (i : ℕ) (row : RoomRow) (least now : ℕ) → i < length rows → row ≡ get_or rows i row → now ≡ min (row_least full row) least → least_of full rows ≡ min least (least_of full (drop i rows))
    → least_of full rows ≡ min now (least_of full (drop (i + 1) rows))
least_next full rows i row least now lt is same told =
    let next : i + 1 ≡ suc i = omega arith in
    let left : drop i rows ≡ row ∷ drop (i + 1) rows = drop-cons rows i row lt ∙ ap (λ (r : RoomRow). r ∷ drop (suc i) rows) (sym is) ∙ ap (λ k. row ∷ drop k rows) (sym next) in
    let here : least_of full rows ≡ min least (min (row_least full row) (least_of full (drop (i + 1) rows))) = told ∙ ap (λ (rs : List RoomRow). min least (least_of full rs)) left in
    here ∙ order least (row_least full row) now (least_of full (drop (i + 1) rows)) same
  where
    order : (w g n r : ℕ) → n ≡ min g w → min w (min g r) ≡ min n r
    order w g n r e = omega (arith, e)

pub least_done : (full : ℕ) (rows : List RoomRow) (i least : ℕ) → length rows ≤ i → least ≤ full → least_of full rows ≡ min least (least_of full (drop i rows)) → least ≡ least_of full rows
least_done full rows i least le most told =
    let none : least_of full (drop i rows) ≡ full = ap (least_of full) (drop_all i rows le) in
    omega (arith, told, none, most)

-- the least is at most that of the slowest load
pub least_most : (full : ℕ) (rows : List RoomRow) → least_of full rows ≤ full
least_most full [] = omega arith
least_most full (row ∷ rows) = omega (arith, least_most full rows)

pub least_first : (full : ℕ) (rows : List RoomRow) → least_of full rows ≡ min full (least_of full rows)
least_first full rows = omega (arith, least_most full rows)
