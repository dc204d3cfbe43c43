use Rattle.trace_types.specs.declared.named_trace.NamedTrace.{NamedTrace}
use Rattle.kept_names.proofs.MarkLemmas.{marks_more_lists}
use Rattle.kept_names.proofs.marking.mark_traces.Goals as goal

pub loop-trace-preserved : goal.loop-trace-preserved
loop-trace-preserved c = marks_more_lists (λ (t : NamedTrace). t.segments) c.args.traces.now c.loop-trace.trace-index c.trace-item.result c.loop-trace-test.true c.trace-item.is c.args.marks.now c.loop-trace.marks c.mark_trace.new.marks c.loop-trace.invariant c.mark_trace.ensures
