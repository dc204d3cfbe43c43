use Rattle.std.proofs.Common.{◌≡◌, length}
use Rattle.call_checks.proofs.worked.all_made.Given as goal

-- a span for each row so far
abbrev pub invariant-loop-texts : goal.invariant-loop-texts
invariant-loop-texts l = length l.spans.items ≡ l.texts-index
