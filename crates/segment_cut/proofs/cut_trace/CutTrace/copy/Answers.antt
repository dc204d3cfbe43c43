use Rattle.std.proofs.Common.{◌∙◌, List, ap}
use Rattle.segment_cut.specs.declared.cut_segment.CutSegment.{CutSegment}
use Rattle.segment_cut.specs.NumberedCuts.{segments_under}
use Rattle.segment_cut.proofs.cut_trace.CutTrace.copy.Goals as goal

pub invariant_of-result : goal.invariant_of-result
invariant_of-result c =
    let same = c.of.ensures ∙ (c.in_ok-copy_segments.ensures ∙ ap (λ (ss : List CutSegment). segments_under c.self.inside.texts.now ss) c.deref.ensures.value) in
    rw same (record { names_differ = c.self.inside.names_differ; together = c.self.inside.together; joined = c.self.inside.joined })
