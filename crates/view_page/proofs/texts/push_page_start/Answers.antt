use Rattle.view_page.specs.Texts.{page_start}
use Rattle.view_page.proofs.texts.push_page_start.Goals as goal

pub returns : goal.returns
unfolding page_start
returns c = c.push_fixed.ensures
