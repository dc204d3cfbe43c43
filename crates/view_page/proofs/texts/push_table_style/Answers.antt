use Rattle.view_page.specs.Texts.{table_style}
use Rattle.view_page.proofs.texts.push_table_style.Goals as goal

pub returns : goal.returns
unfolding table_style
returns c = c.push_fixed.ensures
