use Rattle.digest_facts.proofs.TableLemmas.{tables_tell_apart}
use Rattle.digest_facts.proofs.laws.tables_tell_apart.Goals as goal

pub returns : goal.returns
returns g c = tables_tell_apart
