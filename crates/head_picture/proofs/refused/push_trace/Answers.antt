use Rattle.head_picture.specs.Refusals.{trace_text}
use Rattle.head_picture.proofs.refused.push_trace.Goals as goal

pub returns : goal.returns
unfolding trace_text
returns c = rw (c.as_str.ensures, c.get-line.ensures.value) at c.push_pieces.ensures
