use Rattle.span_requests.specs.inner.Ids.{lent_texts}
use Rattle.span_requests.proofs.TraceLemmas.{traces_more}
use Rattle.span_requests.proofs.traces.put_traces.Goals as goal

pub loop-span-preserved : goal.loop-span-preserved
loop-span-preserved c =
    traces_more c.args.spans.now c.loop-span.span-index c.span-item.result (lent_texts c.loop-span.traces.keys) (lent_texts c.put_trace.new.traces.keys) c.as_str.result.now c.loop-span-test.true c.span-item.is c.loop-span.invariant c.as_str.ensures c.in_ok-put_trace.ensures
