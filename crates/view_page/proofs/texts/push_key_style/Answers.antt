use Rattle.view_page.specs.Texts.{key_style}
use Rattle.view_page.proofs.texts.push_key_style.Goals as goal

pub returns : goal.returns
unfolding key_style
returns c = c.push_fixed.ensures
