use Rattle.view_page.specs.Texts.{base_style}
use Rattle.view_page.proofs.texts.push_base_style.Goals as goal

pub returns : goal.returns
unfolding base_style
returns c = c.push_fixed.ensures
