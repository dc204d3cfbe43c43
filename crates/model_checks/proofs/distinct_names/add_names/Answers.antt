use Rattle.std.proofs.Common.{arith}
use Rattle.trace_types.specs.Segments.{name_of}
use Rattle.model_checks.proofs.GrowingLemmas.{AddsDistinct-more}
use Rattle.model_checks.proofs.distinct_names.add_names.Goals as goal

pub loop-segment-preserved : goal.loop-segment-preserved
loop-segment-preserved c = AddsDistinct-more name_of c.items-segment-items.result.now c.loop-segment.segment-index c.segment-item.result (omega arith) c.segment-item.is (c.args.names.now.items) (c.loop-segment.names.items) (c.add_name.new.names.items) c.loop-segment.invariant c.in_ok-add_name.ensures
