use Rattle.std.proofs.Common.{codes}
use Rattle.graph_picture.specs.Graphs.{counts_text, joined_text, notes_text}
use Rattle.graph_picture.proofs.TextLemmas.{three_sent}
use Rattle.graph_picture.proofs.graph.push_notes.Goals as goal

pub returns : goal.returns
unfolding notes_text
returns c =
    three_sent c.push_joined.result _ _ _ _ (codes "</svg></div><p class=\"note\">") (counts_text c.args.boxes c.args.arrows c.args.relations) (joined_text c.args.joined) c.in_ok-push_fixed.ensures c.in_ok-push_counts.ensures c.push_joined.ensures
