-- The rows over one more trace.
use Rattle.std.proofs.Common.{◌≡◌, ℕ, zero, suc, ◌+◌, ◌*◌, ◌^◌, ◌<◌, ◌≤◌, List, [], ◌∷◌, ◌++◌, length, get_or, take, drop, arith, refl, sym, ap, ◌∙◌, subst}
use Rattle.std.proofs.Math.Seq.{take-append_seam}
use Rattle.std.specs.List.{AllZip}
use Rattle.std.proofs.lemmas.List.{get_or_default}
use Rattle.std.proofs.lemmas.List.Sums.{sum_by-append, sum_by-cons}
use Rattle.model_meet.specs.ModelStates.{ModelState}
use Rattle.model_meet.specs.RelationBits.{KeepsExclusion}
use Rattle.trace_figures.specs.Measured.{IsMeasured}
use Rattle.trace_figures.specs.declared.trace_figures.TraceFigures.{TraceFigures}
use Rattle.trace_rules.specs.declared.forecast.Forecast.{Forecast}
use Rattle.trace_types.specs.declared.named_trace.NamedTrace.{NamedTrace}
use Rattle.what_if.specs.declared.change.Change.{Change}
use Rattle.gain_table.specs.GainRows.{AreGainRows, IsGainOver, IsGainRow, IsPredicted, takes_half, takes_none}
use Rattle.gain_table.specs.declared.gain_row.GainRow.{GainRow}
use Rattle.gain_table.specs.inner.Growing.{HaveGrown, empty_row, row_at}
use Rattle.gain_table.proofs.PredictedLemmas.{losing, predicted_half, predicted_none}

zip_push : {A B : Type 0} (R : A → B → Type 0) (xs : List A) (ys : List B) (x : A) (y : B) → AllZip R xs ys → R x y → AllZip R (xs ++ x ∷ []) (ys ++ y ∷ [])
zip_push R [] [] x y all one = (one, tt)
zip_push R [] (b ∷ ys) x y all one = absurd all
zip_push R (a ∷ xs) [] x y all one = absurd all
zip_push R (a ∷ xs) (b ∷ ys) x y all one = (all.0, zip_push R xs ys x y all.1 one)

module _ (Excludes : ℕ → ℕ → Type 0) where
  gain_none : (c : Change) → IsGainOver Excludes [] c 0
  gain_none c = record { forecasts = []; predicted = tt; difference = refl }

  gain_more : (traces : List NamedTrace) (trace : NamedTrace) (c : Change) (gain loss after : ℕ) → IsGainOver Excludes traces c gain → IsPredicted Excludes c trace (losing after loss) → IsGainOver Excludes (traces ++ trace ∷ []) c (gain + loss)
  gain_more traces trace c gain loss after so one = record {
    forecasts = so.forecasts ++ losing after loss ∷ [];
    predicted = zip_push (IsPredicted Excludes c) traces so.forecasts trace (losing after loss) so.predicted one;
    difference =
        let a = sum_by-append (λ (f : Forecast). f.after) so.forecasts (losing after loss ∷ []) in
        let b = sum_by-append (λ (f : Forecast). f.before) so.forecasts (losing after loss ∷ []) in
        let x = sum_by-cons (λ (f : Forecast). f.after) (losing after loss) [] in
        let y = sum_by-cons (λ (f : Forecast). f.before) (losing after loss) [] in
        let was = so.difference in
        omega arith;
  }

  -- the rows of no trace
  pub rows_none : (names : ℕ) (rows : List GainRow) → length rows ≡ names → ((name : ℕ) → name < names → row_at rows name ≡ empty_row name) → AreGainRows Excludes [] names rows
  rows_none names rows count each = record {
    count = count;
    each = λ name d lt. subst (λ (r : GainRow). IsGainRow Excludes [] r × (r.name ≡ name))
        (sym (get_or_default rows name d (empty_row 0) (omega arith) ∙ each name lt))
        (record { none = gain_none (takes_none name); half = gain_none (takes_half name) }, refl);
  }

-- the rows of one trace more
pub rows_more : (model : ModelState) (traces : List NamedTrace) (trace : NamedTrace) (figures : TraceFigures) (names : ℕ) (old new : List GainRow) → IsMeasured model trace figures → AreGainRows (KeepsExclusion model.words) traces names old
    → HaveGrown trace figures (length figures.order) old new → AreGainRows (KeepsExclusion model.words) (traces ++ trace ∷ []) names new
rows_more model traces trace figures names old new is so grown = record {
  count = grown.rows ∙ so.count;
  each = λ name d lt.
      let size = so.count in
      let more = grown.rows in
      let (gain, of, short, grew) = grown.each name (omega arith) in
      let (row, named) = so.each name (empty_row 0) lt in
      let none = predicted_none model trace figures is name gain of in
      let half = predicted_half model trace figures is name gain of in
      subst (λ (r : GainRow). IsGainRow (KeepsExclusion model.words) (traces ++ trace ∷ []) r × (r.name ≡ name))
      (sym (get_or_default new name d (empty_row 0) (omega arith) ∙ grew)) (
        record {
          none = gain_more (KeepsExclusion model.words) traces trace (takes_none (row_at old name).name) (row_at old name).none gain.none none.0 row.none
              (subst (λ (n : ℕ). IsPredicted (KeepsExclusion model.words) (takes_none n) trace (losing none.0 gain.none)) (sym named) none.1);
          half = gain_more (KeepsExclusion model.words) traces trace (takes_half (row_at old name).name) (row_at old name).half gain.half half.0 row.half
              (subst (λ (n : ℕ). IsPredicted (KeepsExclusion model.words) (takes_half n) trace (losing half.0 gain.half)) (sym named) half.1);
        },
        named,
      );
}

-- rows that have grown over one trace are within what one trace more may bring
pub more_none : (trace : NamedTrace) (figures : TraceFigures) (count : ℕ) (old new : List GainRow) (i name : ℕ) → HaveGrown trace figures count old new → name < length old → (row_at old name).none ≤ i * 2 ^ 64 → (row_at new name).none ≤ (i + 1) * 2 ^ 64
more_none trace figures count old new i name grown lt le =
    let (gain, of, short, grew) = grown.each name lt in
    let up : (row_at new name).none ≡ (row_at old name).none + gain.none = ap (λ (r : GainRow). r.none) grew in
    let small = short.0 in
    omega arith

pub more_half : (trace : NamedTrace) (figures : TraceFigures) (count : ℕ) (old new : List GainRow) (i name : ℕ) → HaveGrown trace figures count old new → name < length old → (row_at old name).half ≤ i * 2 ^ 64 → (row_at new name).half ≤ (i + 1) * 2 ^ 64
more_half trace figures count old new i name grown lt le =
    let (gain, of, short, grew) = grown.each name lt in
    let up : (row_at new name).half ≡ (row_at old name).half + gain.half = ap (λ (r : GainRow). r.half) grew in
    let small = short.1 in
    omega arith

-- two lent elements side by side
pub lent_at : {X Y : Type 0} (R : X → Y → Type 0) (xs : List X) (ys : List Y) (i : ℕ) (x : X) (y : Y) → AllZip R xs ys → i < length xs → x ≡ get_or xs i x → y ≡ get_or ys i y → R x y
lent_at R [] ys i x y all lt a b = absurd (omega arith)
lent_at R (u ∷ xs) [] i x y all lt a b = absurd all
lent_at {X} {Y} R (u ∷ xs) (v ∷ ys) zero x y all lt a b = subst (λ (z : X). R z y) (sym a) (subst (R u) (sym b) all.0)
lent_at R (u ∷ xs) (v ∷ ys) (suc i) x y all lt a b = lent_at R xs ys i x y all.1 (omega arith) a b

-- what a call wrote into a vector
pub written : {X : Type 0} (len : ℕ) (new items : List X) → length new ≡ len → take len (new ++ drop (length new) items) ≡ new
written {X} len new items same = subst (λ (n : ℕ). take n (new ++ drop (length new) items) ≡ new) same (take-append_seam new (drop (length new) items))
