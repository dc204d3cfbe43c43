use Rattle.what_if.proofs.ChangeLemmas.{changes_raise_no_weight}
use Rattle.what_if.proofs.laws.changes_raise_no_weight.Goals as goal

pub returns : goal.returns
returns c = changes_raise_no_weight
