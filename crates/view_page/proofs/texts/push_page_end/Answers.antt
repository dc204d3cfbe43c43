use Rattle.view_page.specs.Texts.{page_end}
use Rattle.view_page.proofs.texts.push_page_end.Goals as goal

pub returns : goal.returns
unfolding page_end
returns c = c.push_fixed.ensures
