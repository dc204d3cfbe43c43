use Rattle.trace_quality.proofs.SlowLemmas.{spans_all, spans_more}
use Rattle.trace_quality.proofs.slowest.sort_spans.Goals as goal

pub facts-preserved : goal.facts-preserved
facts-preserved c = spans_more c.args.facts.now c.facts.index _ c.facts.spans.items c.push.new.self.items c.span_of.result c.facts-test.true c.facts.invariant c.span_of.ensures c.in_ok-push.ensures.items

pub returns-clause-same : goal.returns-clause-same
returns-clause-same c = spans_all c.args.facts.now c.facts.index c.facts.spans.items c.sort_unstable.new.self.items c.facts-test.false c.facts.invariant c.sort_unstable.ensures.permutation
