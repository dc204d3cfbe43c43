-- The greatest mean of rows, one after another.
use Rattle.std.proofs.Common.{◌≡◌, ℕ, suc, ◌<◌, ◌≤◌, ◌+◌, List, ◌∷◌, length, drop, get_or, sym, ap, ◌∙◌, arith}
use Rattle.std.specs.Prelude.{max}
use Rattle.std.proofs.Math.Seq.{drop-cons}
use Rattle.std.proofs.lemmas.List.{drop_all}
use Rattle.tail_picture.specs.declared.tailed_row.TailedRow.{TailedRow}
use Rattle.tail_picture.specs.Tails.{greater_of, width_of}

pub width_next : (rows : List TailedRow) (i : ℕ) (row : TailedRow) (width greater width1 : ℕ) → i < length rows → row ≡ get_or rows i row → greater ≡ greater_of row → width1 ≡ max greater width → width_of rows ≡ max width (width_of (drop i rows))
    → width_of rows ≡ max width1 (width_of (drop (i + 1) rows))
width_next rows i row width greater width1 lt is e same told =
    let next : i + 1 ≡ suc i = omega arith in
    let left : drop i rows ≡ row ∷ drop (i + 1) rows = drop-cons rows i row lt ∙ ap (λ (r : TailedRow). r ∷ drop (suc i) rows) (sym is) ∙ ap (λ k. row ∷ drop k rows) (sym next) in
    let here : width_of rows ≡ max width (max (greater_of row) (width_of (drop (i + 1) rows))) = told ∙ ap (λ (rs : List TailedRow). max width (width_of rs)) left in
    here ∙ order width (greater_of row) greater width1 (width_of (drop (i + 1) rows)) e same
  where
    order : (w g h x r : ℕ) → h ≡ g → x ≡ max h w → max w (max g r) ≡ max x r
    order w g h x r e f = omega (arith, e, f)

pub width_done : (rows : List TailedRow) (i width : ℕ) → length rows ≤ i → width_of rows ≡ max width (width_of (drop i rows)) → width ≡ width_of rows
width_done rows i width le told =
    let none : width_of (drop i rows) ≡ 0 = ap width_of (drop_all i rows le) in
    omega (arith, told, none)
