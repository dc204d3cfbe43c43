use Rattle.std.proofs.Common.{◌≢◌, sym, arith}
use Rattle.std.proofs.lemmas.Bool.{iff_false}
use Rattle.std.proofs.lemmas.List.Elements.{AllWithin-more, at_read}
use Rattle.trace_types.specs.declared.segment.Segment.{Segment}
use Rattle.trace_types.specs.Segments.{name_of}
use Rattle.model_checks.proofs.refuted.segment_of.Goals as goal

pub loop-segment-preserved : goal.loop-segment-preserved
loop-segment-preserved c =
    let other : c.args.name.now ≢ name_of c.segment-item.result = λ e. iff_false c.is_name_of.ensures c.if-is_name_of.false e in
    AllWithin-more (λ (s : Segment). name_of s ≢ c.args.name.now) c.items-segment-items.result.now 0 c.loop-segment.segment-index c.loop-segment.invariant
    (at_read c.items-segment-items.result.now (λ (s : Segment). name_of s ≢ c.args.name.now) c.loop-segment.segment-index c.segment-item.result (omega arith) c.segment-item.is (λ e. other (sym e)))
