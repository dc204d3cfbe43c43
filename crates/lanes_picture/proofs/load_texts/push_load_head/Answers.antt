use Rattle.lanes_picture.specs.Lanes.{load_head}
use Rattle.lanes_picture.proofs.load_texts.push_load_head.Goals as goal

pub returns : goal.returns
unfolding load_head
returns c =
    rw (c.as_str.ensures, c.as_str-2.ensures, c.get-latency.ensures.value, c.get-length.ensures.value, c.get-steps.ensures.value, c.get-day.ensures.value, c.get-index.ensures.value) at c.push_pieces.ensures
