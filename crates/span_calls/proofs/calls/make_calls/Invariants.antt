use Rattle.span_requests.specs.SpansOnce.{lent_spans}
use Rattle.span_calls.proofs.CallLemmas.{AreCallsTo}
use Rattle.span_calls.proofs.calls.make_calls.Given as goal

-- the calls with the numbers so far
abbrev pub invariant-loop-at : goal.invariant-loop-at
invariant-loop-at l = AreCallsTo (lent_spans l.spans) l.callers l.numbers l.at l.calls.items
