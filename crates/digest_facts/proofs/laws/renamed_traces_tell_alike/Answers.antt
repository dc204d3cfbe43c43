use Rattle.digest_facts.proofs.RenamedLemmas.{renamed_tell}
use Rattle.digest_facts.proofs.laws.renamed_traces_tell_alike.Goals as goal

pub returns : goal.returns
returns g c = λ p q. renamed_tell p q (λ names tasks traces others one_n one_t each. c.renamed_traces_leave_alike.ensures.relations p q names tasks traces others one_n one_t each)
