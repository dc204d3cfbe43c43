use Rattle.view_page.specs.Texts.{dark_colours}
use Rattle.view_page.proofs.texts.push_dark_colours.Goals as goal

pub returns : goal.returns
unfolding dark_colours
returns c = c.push_fixed.ensures
