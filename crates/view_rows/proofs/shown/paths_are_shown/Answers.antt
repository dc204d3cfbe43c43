use Rattle.view_rows.proofs.ReportPathLemmas.{paths_shown}
use Rattle.view_rows.proofs.shown.paths_are_shown.Goals as goal

pub returns : goal.returns
returns c = λ known given words traces kept paths fits shown judge are.
    paths_shown known (c.numbering_is_one_to_one.ensures.matched known.names) c.judged_graph_is_shown.ensures fits given words traces kept shown judge paths are
