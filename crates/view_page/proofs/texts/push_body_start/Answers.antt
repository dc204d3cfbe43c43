use Rattle.view_page.specs.Texts.{body_start}
use Rattle.view_page.proofs.texts.push_body_start.Goals as goal

pub returns : goal.returns
unfolding body_start
returns c = c.push_fixed.ensures
