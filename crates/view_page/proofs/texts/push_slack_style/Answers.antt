use Rattle.view_page.specs.Texts.{slack_style}
use Rattle.view_page.proofs.texts.push_slack_style.Goals as goal

pub returns : goal.returns
unfolding slack_style
returns c = c.push_fixed.ensures
