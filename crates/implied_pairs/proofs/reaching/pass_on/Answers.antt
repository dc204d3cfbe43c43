use Rattle.std.proofs.Common.{ℕ, ◌+◌, ◌<◌, List, Bool, sym, subst, arith}
use Rattle.implied_pairs.proofs.MatrixLemmas.{PassedSoFar, passed_add, passed_skip}
use Rattle.implied_pairs.proofs.reaching.pass_on.Goals as goal
use Rattle.implied_pairs.proofs.reaching.pass_on.Goals.{then-matrix-row, else-matrix-row}

pub rows-preserved : goal.rows-preserved
rows-preserved c =
    let count = c.args.count in
    let old : List Bool = c.args.matrix.now in
    let row = c.rows.row in
    let inside : row < count = omega (arith, c.rows-test.true) in
    elim c.if-matrix-row.branch [
      | then-matrix-row w ↦ subst (PassedSoFar count old c.args.through (row + 1)) (sym w.matrix-is)
          (passed_add count old c.args.through row c.rows.matrix c.requires.through inside c.rows.invariant w.add_row.new.matrix w.if-matrix-row.true w.add_row.ensures.size w.add_row.ensures.added)
      | else-matrix-row w ↦ subst (PassedSoFar count old c.args.through (row + 1)) (sym w.matrix-is)
          (passed_skip count old c.args.through row c.rows.matrix c.requires.through inside c.rows.invariant w.if-matrix-row.false)
    ]
