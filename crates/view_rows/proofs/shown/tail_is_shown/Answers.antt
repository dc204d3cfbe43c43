use Rattle.view_rows.proofs.ReportLemmas.{tail_shown}
use Rattle.view_rows.proofs.shown.tail_is_shown.Goals as goal

pub returns : goal.returns
returns c = λ known given words traces kept report fits shown judge is.
    tail_shown known given words traces kept fits shown judge (c.numbering_is_one_to_one.ensures.matched known.names) c.paths_are_shown.ensures c.names_are_totally_ordered.ensures.names c.a_list_is_told_in_one_way.ensures.listed report is
