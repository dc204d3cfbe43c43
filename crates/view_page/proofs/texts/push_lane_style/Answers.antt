use Rattle.view_page.specs.Texts.{lane_style}
use Rattle.view_page.proofs.texts.push_lane_style.Goals as goal

pub returns : goal.returns
unfolding lane_style
returns c = c.push_fixed.ensures
