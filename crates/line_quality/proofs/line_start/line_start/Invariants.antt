use Rattle.line_quality.specs.inner.FirstLines.{IsLineStart}
use Rattle.line_quality.proofs.line_start.line_start.Given as goal

-- so many lines stand before the place
abbrev pub invariant-lines : goal.invariant-lines
invariant-lines l = IsLineStart l.bytes l._line l.at
