use Rattle.lanes_picture.specs.Lanes.{bar_figures}
use Rattle.lanes_picture.proofs.load_texts.push_bar_figures.Goals as goal

pub returns : goal.returns
unfolding bar_figures
returns c = rw (c.get-start.ensures.value, c.get-duration.ensures.value, c.get-slack.ensures.value) at c.push_pieces.ensures
