use Rattle.pretty_cli.proofs.RowLemmas.{all_rows, next_row}
use Rattle.pretty_cli.proofs.row.rows_of.Goals as goal

pub lines-init : goal.lines-init
lines-init c rest below = rw (c.in_ok-rows.ensures.items) (rw c.new-context.ensures at below)

pub lines-preserved : goal.lines-preserved
lines-preserved c =
    rw c.in_ok-push.ensures.items (next_row c.args.lines.now c.lines.line-index c.lines.context c.lines.rows.items c.in_ok-row.row _ c.lines-test.true c.lines.invariant c.in_ok-row.ensures)

pub returns : goal.returns
returns c = all_rows c.args.lines.now c.lines.line-index c.lines.context c.lines.rows.items c.lines-test.false c.lines.invariant
