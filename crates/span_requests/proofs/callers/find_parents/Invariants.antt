use Rattle.std.proofs.Common.{◌≡◌, Bor, map, take}
use Rattle.span_types.specs.declared.span.Span.{Span}
use Rattle.span_requests.specs.inner.Ids.{lent_spans}
use Rattle.span_requests.specs.inner.Numbering.{parent_number}
use Rattle.span_requests.proofs.callers.find_parents.Given as goal

-- the parents of the spans so far were found
abbrev pub invariant-loop-span : goal.invariant-loop-span
invariant-loop-span l = l.parents.items ≡ map (λ (s : Bor Span). parent_number (lent_spans l.spans) s.now) (take l.span-index l.spans)
