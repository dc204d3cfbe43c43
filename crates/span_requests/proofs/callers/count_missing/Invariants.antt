use Rattle.std.proofs.Common.{◌≡◌, ◌≤◌, Bor, take}
use Rattle.std.specs.List.{count_by}
use Rattle.span_types.specs.declared.span.Span.{Span}
use Rattle.span_requests.specs.Callers.{misses_parent}
use Rattle.span_requests.specs.inner.Ids.{lent_spans}
use Rattle.span_requests.proofs.callers.count_missing.Given as goal

-- of the spans so far those were counted
abbrev pub invariant-loop-at : goal.invariant-loop-at
invariant-loop-at l = record {
  count : l.count ≡ count_by (λ (s : Bor Span). misses_parent (lent_spans l.spans) s.now) (take l.at l.spans);
  few : l.count ≤ l.at;
}
