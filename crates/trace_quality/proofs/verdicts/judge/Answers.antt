use Rattle.std.proofs.Common.{◌∙◌, ap, sym, length}
use Rattle.std.proofs.lemmas.List.{length-map}
use Rattle.segment_cut.specs.NumberedCuts.{segment_under}
use Rattle.trace_quality.proofs.verdicts.judge.Goals as goal

pub returns-in_ok-count_waits-in-Ok : goal.returns-in_ok-count_waits-in-Ok
returns-in_ok-count_waits-in-Ok c =
    (c.in-Ok.trace.trace, c.in-Ok.ensures.ok, sym (length-map c.segments.result.now (segment_under c.in-Ok.trace.texts)) ∙ ap length c.segments.ensures.segments, c.in_ok-count_waits-in-Ok.ensures)
