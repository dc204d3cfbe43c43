use Rattle.std.proofs.Common.{ap, ◌∙◌}
use Rattle.trace_types.specs.Segments.{SegmentName}
use Rattle.graph_picture.specs.Boxes.{task_label}
use Rattle.graph_picture.proofs.boxes.push_task_label.Goals as goal

pub returns : goal.returns
unfolding task_label
returns c =
    let task = c.as_str.ensures ∙ ap (λ (n : SegmentName). n.0) c.name.view_is in
    rw task at c.push_pieces.ensures
