use Rattle.view_page.specs.Texts.{light_colours}
use Rattle.view_page.proofs.texts.push_light_colours.Goals as goal

pub returns : goal.returns
unfolding light_colours
returns c = c.push_fixed.ensures
