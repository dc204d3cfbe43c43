use Rattle.std.proofs.Common.{ℕ, ◌+◌, ◌<◌, List, Bool, sym, subst, arith}
use Rattle.implied_pairs.proofs.MatrixLemmas.{RowSoFar, row_set, row_skip}
use Rattle.implied_pairs.proofs.reaching.add_row.Goals as goal
use Rattle.implied_pairs.proofs.reaching.add_row.Goals.{then-matrix-from, else-matrix-from}

pub columns-preserved : goal.columns-preserved
columns-preserved c =
    let count = c.args.count in
    let old : List Bool = c.args.matrix.now in
    let column = c.columns.column in
    let inside : column < count = omega (arith, c.columns-test.true) in
    elim c.if-matrix-from.branch [
      | then-matrix-from w ↦ subst (RowSoFar count old c.args.to c.args.from (column + 1)) (sym w.matrix-is)
          (row_set count old c.args.to c.args.from column c.columns.matrix c.requires.to c.requires.from inside c.columns.invariant w.if-matrix-from.true)
      | else-matrix-from w ↦ subst (RowSoFar count old c.args.to c.args.from (column + 1)) (sym w.matrix-is)
          (row_skip count old c.args.to c.args.from column c.columns.matrix c.requires.to c.requires.from inside c.columns.invariant w.if-matrix-from.false)
    ]
