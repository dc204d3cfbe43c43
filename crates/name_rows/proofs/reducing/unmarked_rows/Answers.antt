use Rattle.std.proofs.Common.{ap, ◌∙◌, List, Vec, Global}
use Rattle.evidence_rules.specs.declared.between.Between.{Between}
use Rattle.evidence_rules.specs.declared.pair_row.PairRow.{PairRow}
use Rattle.name_rows.proofs.RowLemmas.{no_row, unmarked_left, unmarked_out}
use Rattle.name_rows.proofs.reducing.unmarked_rows.Goals as goal
use Rattle.name_rows.proofs.reducing.unmarked_rows.Goals.{then-not-marks-at+in_ok-push, else-not-marks-at}

pub rows-preserved : goal.rows-preserved
rows-preserved c =
    let rows : List (PairRow Between) = c.args.rows.now in
    let marks = c.args.marks.now in
    let at = c.rows.at in
    elim c.if-not-marks-at.branch [
      | then-not-marks-at+in_ok-push w ↦ ap (λ (v : Vec (PairRow Between) Global). v.items) w.left-is ∙ (w.in_ok-push.ensures.items
          ∙ unmarked_left rows marks at no_row c.rows.left.items c.requires c.rows-test.true w.if-not-marks-at.true c.rows.invariant)
      | else-not-marks-at w ↦ ap (λ (v : Vec (PairRow Between) Global). v.items) w.left-is
          ∙ unmarked_out rows marks at no_row c.rows.left.items c.requires c.rows-test.true w.if-not-marks-at.false c.rows.invariant
    ]
