use Rattle.event_text.proofs.QuotingLemmas.{none_escaped}
use Rattle.event_text.proofs.quoting.push_content.Goals as goal

pub returns-in_ok-extend_from_slice-in-None : goal.returns-in_ok-extend_from_slice-in-None
returns-in_ok-extend_from_slice-in-None c = rw (none_escaped c.args.text.now c.in-None.ensures) c.in_ok-extend_from_slice-in-None.ensures.items
