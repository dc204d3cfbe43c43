-- Reasons and refused traces, one after another.
use Rattle.std.proofs.Common.{◌≡◌, ℕ, suc, ◌<◌, ◌≤◌, ◌+◌, List, ◌∷◌, ◌++◌, true, false, Result, Ok, Err, OnOk, length, drop, get_or, sym, ap, ◌∙◌, arith, append-nil, append_assoc}
use Rattle.std.specs.Prelude.{bytes_eq, if◌then◌else◌}
use Rattle.std.proofs.Math.Seq.{drop-cons}
use Rattle.std.proofs.lemmas.List.{drop_all}
use Rattle.page_rows.specs.declared.report_rows.RefusedRow.{RefusedRow}
use Rattle.head_picture.specs.Refusals.{first_text, trace_text, with_reason, with_rows}

left : (rows : List RefusedRow) (i : ℕ) (row : RefusedRow) → i < length rows → row ≡ get_or rows i row → drop i rows ≡ row ∷ drop (i + 1) rows
left rows i row lt is =
    let next : i + 1 ≡ suc i = omega arith in
    drop-cons rows i row lt ∙ ap (λ (r : RefusedRow). r ∷ drop (suc i) rows) (sym is) ∙ ap (λ k. row ∷ drop k rows) (sym next)

pub rows_next : (seen seen1 whole : List (List ℕ)) (rows : List RefusedRow) (i : ℕ) (row : RefusedRow) → i < length rows → row ≡ get_or rows i row → seen1 ≡ with_reason seen row.reason → whole ≡ with_rows seen (drop i rows) → whole ≡ with_rows seen1 (drop (i + 1) rows)
rows_next seen seen1 whole rows i row lt is step told =
    told ∙ ap (with_rows seen) (left rows i row lt is) ∙ ap (λ (s : List (List ℕ)). with_rows s (drop (i + 1) rows)) (sym step)

pub rows_done : (seen whole : List (List ℕ)) (rows : List RefusedRow) (i : ℕ) → length rows ≤ i → whole ≡ with_rows seen (drop i rows) → seen ≡ whole
rows_done seen whole rows i le told = sym (told ∙ ap (with_rows seen) (drop_all i rows le))

module _ (rows : List RefusedRow) (i : ℕ) (row : RefusedRow) (reason whole : List ℕ) (lt : i < length rows) (is : row ≡ get_or rows i row) (told : whole ≡ first_text reason (drop i rows)) where
  from_here : whole ≡ (if bytes_eq reason row.reason then trace_text row else first_text reason (drop (i + 1) rows))
  from_here = told ∙ ap (first_text reason) (left rows i row lt is)

  pub first_later : bytes_eq reason row.reason ≡ false → whole ≡ first_text reason (drop (i + 1) rows)
  first_later e = from_here ∙ ap (λ b. if b then trace_text row else first_text reason (drop (i + 1) rows)) e

  pub first_here : bytes_eq reason row.reason ≡ true → trace_text row ≡ whole
  first_here e = sym (from_here ∙ ap (λ b. if b then trace_text row else first_text reason (drop (i + 1) rows)) e)

pub first_none : (rows : List RefusedRow) (i : ℕ) (reason whole b : List ℕ) → length rows ≤ i → whole ≡ first_text reason (drop i rows) → b ≡ b ++ whole
first_none rows i reason whole b le told = sym (append-nil b) ∙ ap (λ (t : List ℕ). b ++ t) (sym (told ∙ ap (first_text reason) (drop_all i rows le)))

-- a text that was appended, where what stood before and the text are known
pub text_sent : {T E : Type 0} (r : Result T E) (new b old text whole : List ℕ) → b ≡ old → text ≡ whole → OnOk r (new ≡ b ++ text) → OnOk r (new ≡ old ++ whole)
text_sent (Ok v) new b old text whole p q e = e ∙ ap (λ (x : List ℕ). x ++ text) p ∙ ap (λ (x : List ℕ). old ++ x) q
text_sent (Err x) new b old text whole p q e = tt

-- three texts, of which the last one may not fit
pub three_sent : {T E : Type 0} (r : Result T E) (b b1 b2 b3 t u v : List ℕ) → b1 ≡ b ++ t → b2 ≡ b1 ++ u → OnOk r (b3 ≡ b2 ++ v) → OnOk r (b3 ≡ b ++ (t ++ u ++ v))
three_sent (Ok y) b b1 b2 b3 t u v e1 e2 e3 = e3 ∙ ap (λ (s : List ℕ). s ++ v) (e2 ∙ ap (λ (s : List ℕ). s ++ u) e1) ∙ flat
  where
    flat : ((b ++ t) ++ u) ++ v ≡ b ++ (t ++ u ++ v)
    flat = simp append_assoc
three_sent (Err y) b b1 b2 b3 t u v e1 e2 e3 = tt
