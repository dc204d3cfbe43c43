use Rattle.view_page.specs.Texts.{shape_style}
use Rattle.view_page.proofs.texts.push_shape_style.Goals as goal

pub returns : goal.returns
unfolding shape_style
returns c = c.push_fixed.ensures
