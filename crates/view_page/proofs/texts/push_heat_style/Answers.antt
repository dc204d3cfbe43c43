use Rattle.view_page.specs.Texts.{heat_style}
use Rattle.view_page.proofs.texts.push_heat_style.Goals as goal

pub returns : goal.returns
unfolding heat_style
returns c = c.push_fixed.ensures
