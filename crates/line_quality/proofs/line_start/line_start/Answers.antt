use Rattle.std.proofs.Common.{List, ℕ, arith, subst}
use Rattle.line_quality.specs.inner.FirstLines.{IsFirstLine}
use Rattle.line_quality.proofs.LineStartLemmas.{start_more, start_none}
use Rattle.line_quality.proofs.line_start.line_start.Goals as goal

pub lines-init : goal.lines-init
lines-init c = start_none c.args.bytes.now

pub lines-preserved : goal.lines-preserved
lines-preserved c =
    let line = c.of-at.result in
    let first = subst (λ (xs : List ℕ). IsFirstLine xs line) c.bytes_from.ensures c.of-at.ensures in
    start_more c.args.bytes.now c.lines._line c.lines.at line c.lines.invariant (omega (arith, c.requires, c.lines-test.true)) first
