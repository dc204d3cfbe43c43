use Rattle.std.proofs.Common.{◌≡◌}
use Rattle.call_trees.specs.Tables.{table_of}
use Rattle.span_calls.specs.Calls.{moments_at}
use Rattle.span_calls.specs.inner.CallKeys.{all_moments}
use Rattle.span_requests.specs.SpansOnce.{lent_spans}
use Rattle.span_calls.proofs.seeing.see_all.Given as goal

-- the keys of the spans so far
abbrev pub invariant-loop-at : goal.invariant-loop-at
invariant-loop-at l = all_moments l.keys.items ≡ table_of (moments_at (lent_spans l.spans) l.callers) l.at
