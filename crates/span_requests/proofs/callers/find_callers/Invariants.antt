use Rattle.std.proofs.Common.{◌≡◌, Bor, map, take}
use Rattle.span_types.specs.declared.span.Span.{Span}
use Rattle.span_requests.specs.inner.Ids.{lent_spans}
use Rattle.span_requests.specs.inner.Numbering.{caller_number}
use Rattle.span_requests.proofs.callers.find_callers.Given as goal

-- the callers of the spans so far were found
abbrev pub invariant-loop-at : goal.invariant-loop-at
invariant-loop-at l = l.callers.items ≡ map (λ (s : Bor Span). caller_number (lent_spans l.spans) s.now) (take l.at l.spans)
