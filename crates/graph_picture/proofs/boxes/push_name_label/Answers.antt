use Rattle.std.proofs.Common.{ap, ◌∙◌}
use Rattle.trace_types.specs.Segments.{SegmentName}
use Rattle.graph_picture.specs.Boxes.{name_label}
use Rattle.graph_picture.proofs.boxes.push_name_label.Goals as goal

pub returns : goal.returns
unfolding name_label
returns c =
    let task = c.as_str.ensures ∙ ap (λ (n : SegmentName). n.0) c.name.view_is in
    let start = c.as_str-2.ensures ∙ ap (λ (n : SegmentName). n.1) c.name.view_is in
    let end = c.as_str-3.ensures ∙ ap (λ (n : SegmentName). n.2) c.name.view_is in
    rw (task, start, end) at c.push_pieces.ensures
