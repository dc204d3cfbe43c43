use Rattle.session.proofs.AddLemmas.{passes_days}
use Rattle.session.proofs.laws.add_passes_days.Goals as goal

pub returns : goal.returns
returns c old s valid wide named sheets days h a many is =
    passes_days c.grown_shows.ensures c.sheets_show.ensures.shown c.sheets_show.ensures.counted old s h wide valid named sheets a days many is
