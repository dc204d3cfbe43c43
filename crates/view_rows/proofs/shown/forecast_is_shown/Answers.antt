use Rattle.view_rows.proofs.ForecastShownLemmas.{shown_forecast}
use Rattle.view_rows.proofs.shown.forecast_is_shown.Goals as goal

pub returns : goal.returns
returns c = λ known given words kept t k change f fits judge shown h.
    shown_forecast known given words kept t k change f c.judged_graph_is_shown.ensures (c.numbering_is_one_to_one.ensures.matched known.names) fits judge shown h
