use Rattle.std.proofs.Common.{◌≡◌, ◌++◌, map, take, drop}
use Rattle.span_lines.specs.FoldedSpans.{folded_span}
use Rattle.span_lines.proofs.folding.fold_names.Given as goal

-- the spans so far are folded
abbrev pub invariant-loop-at : goal.invariant-loop-at
invariant-loop-at l = l.spans ≡ map folded_span (take l.at l.fn.spans) ++ drop l.at l.fn.spans
