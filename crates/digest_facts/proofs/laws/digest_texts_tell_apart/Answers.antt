use Rattle.digest_facts.proofs.FieldLemmas.{digest_texts_tell_apart}
use Rattle.digest_facts.proofs.laws.digest_texts_tell_apart.Goals as goal

pub returns : goal.returns
returns c = digest_texts_tell_apart
