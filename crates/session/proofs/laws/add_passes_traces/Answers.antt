use Rattle.session.proofs.AddLemmas.{passes_traces}
use Rattle.session.proofs.laws.add_passes_traces.Goals as goal

pub returns : goal.returns
returns c old s valid wide named sheets h a room many =
    passes_traces c.grown_shows.ensures c.sheets_show.ensures.shown c.sheets_show.ensures.counted old s h wide valid named sheets a room many
