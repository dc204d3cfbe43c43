use Rattle.view_page.specs.Texts.{graph_style}
use Rattle.view_page.proofs.texts.push_graph_style.Goals as goal

pub returns : goal.returns
unfolding graph_style
returns c = c.push_fixed.ensures
