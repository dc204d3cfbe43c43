use Rattle.mystery_run.proofs.DecidedLemmas.{one_ending}
use Rattle.mystery_run.proofs.laws.an_input_has_one_ending.Goals as goal

pub returns : goal.returns
returns c = one_ending c.jobs_end_in_one_way.ensures.no_limit c.jobs_end_in_one_way.ensures.one_limit c.a_given_digest_is_one.ensures
