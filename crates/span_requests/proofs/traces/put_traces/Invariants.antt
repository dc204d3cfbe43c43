use Rattle.std.proofs.Common.{◌≡◌, take}
use Rattle.span_requests.specs.Entries.{traces_of}
use Rattle.span_requests.specs.inner.Ids.{lent_spans, lent_texts}
use Rattle.span_requests.proofs.traces.put_traces.Given as goal

-- the traces of the spans so far were put
abbrev pub invariant-loop-span : goal.invariant-loop-span
invariant-loop-span l = lent_texts l.traces.keys ≡ traces_of (lent_spans (take l.span-index l.spans))
