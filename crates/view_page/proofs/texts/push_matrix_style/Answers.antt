use Rattle.view_page.specs.Texts.{matrix_style}
use Rattle.view_page.proofs.texts.push_matrix_style.Goals as goal

pub returns : goal.returns
unfolding matrix_style
returns c = c.push_fixed.ensures
