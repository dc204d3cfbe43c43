use Rattle.std.proofs.Common.{ap, ◌∙◌}
use Rattle.trace_types.specs.Segments.{SegmentName}
use Rattle.lanes_picture.specs.Lanes.{bar_title}
use Rattle.lanes_picture.proofs.lane_bars.push_bar_title.Goals as goal

pub returns : goal.returns
unfolding bar_title
returns c =
    let task = c.as_str.ensures ∙ ap (λ (n : SegmentName). n.0) c.name.view_is in
    let start = c.as_str-2.ensures ∙ ap (λ (n : SegmentName). n.1) c.name.view_is in
    let end = c.as_str-3.ensures ∙ ap (λ (n : SegmentName). n.2) c.name.view_is in
    rw (task, start, end, c.get-duration.ensures.value, c.get-start.ensures.value, c.get-slack.ensures.value) at c.push_pieces.ensures
