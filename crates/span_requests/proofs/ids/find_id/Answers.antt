use Rattle.std.proofs.Common.{◌∙◌, sym}
use Rattle.span_requests.specs.inner.Ids.{pair_eq, pair_of_key}
use Rattle.span_requests.proofs.ListLemmas.{position-map}
use Rattle.span_requests.proofs.ids.find_id.Goals as goal

pub returns : goal.returns
returns c = c.get_index_of.ensures.index ∙ sym (position-map pair_of_key (pair_eq (pair_of_key c.args.id)) c.args.ids.now.keys)
