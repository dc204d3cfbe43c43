use Rattle.digest_facts.proofs.TextLemmas.{texts_tell_apart}
use Rattle.digest_facts.proofs.laws.texts_tell_apart.Goals as goal

pub returns : goal.returns
returns c = texts_tell_apart
