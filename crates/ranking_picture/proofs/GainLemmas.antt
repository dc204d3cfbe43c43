-- The first gain of a name.
use Rattle.std.proofs.Common.{◌≡◌, ℕ, ◌<◌, ◌≤◌, ◌+◌, List, length, drop, get_or, true, false, sym, ap, ◌∙◌, arith, suc}
use Rattle.std.specs.Prelude.{if◌then◌else◌}
use Rattle.std.proofs.Math.Seq.{drop-cons}
use Rattle.std.proofs.lemmas.List.{drop_all}
use Rattle.page_rows.specs.declared.gain_rows.GainRow.{GainRow}
use Rattle.picture_parts.specs.Names.{same_name}
use Rattle.ranking_picture.specs.Rankings.{first_gain}
use Rattle.trace_types.specs.Segments.{SegmentName}

module _ (figure : GainRow → ℕ) (gains : List GainRow) (i : ℕ) (gain : GainRow) (name : SegmentName) (lt : i < length gains) (is : gain ≡ get_or gains i gain) where
  add_one_is : i + 1 ≡ suc i
  add_one_is = omega arith

  from_here : first_gain figure (drop i gains) name ≡ (if same_name gain.name name then figure gain else first_gain figure (drop (i + 1) gains) name)
  from_here = ap (λ (gs : List GainRow). first_gain figure gs name) (drop-cons gains i gain lt)
      ∙ ap (λ (g : GainRow). if same_name g.name name then figure g else first_gain figure (drop (suc i) gains) name) (sym is)
      ∙ ap (λ k. if same_name gain.name name then figure gain else first_gain figure (drop k gains) name) (sym add_one_is)

  -- another name
  pub gain_later : same_name gain.name name ≡ false → first_gain figure (drop i gains) name ≡ first_gain figure (drop (i + 1) gains) name
  gain_later e = from_here ∙ ap (λ b. if b then figure gain else first_gain figure (drop (i + 1) gains) name) e

  -- this name
  pub gain_here : same_name gain.name name ≡ true → first_gain figure (drop i gains) name ≡ figure gain
  gain_here e = from_here ∙ ap (λ b. if b then figure gain else first_gain figure (drop (i + 1) gains) name) e

-- no gain is left
pub no_gain : (figure : GainRow → ℕ) (gains : List GainRow) (i : ℕ) (name : SegmentName) → length gains ≤ i → first_gain figure (drop i gains) name ≡ 0
no_gain figure gains i name le = ap (λ (gs : List GainRow). first_gain figure gs name) (drop_all i gains le)
