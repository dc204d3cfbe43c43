use Rattle.session.proofs.AddLemmas.{adds, shows_after}
use Rattle.session.proofs.laws.add_leads_on.Goals as goal

pub returns : goal.returns
returns c old s events valid refused wide sheets watched h a judged room = (
  adds c.grown_shows.ensures c.sheets_show.ensures.shown c.sheets_show.ensures.counted old s h wide valid sheets watched a events refused judged room,
  shows_after c.grown_shows.ensures c.sheets_show.ensures.shown c.sheets_show.ensures.counted old s h wide valid sheets watched a c.grown_begins_alike.ensures,
)
