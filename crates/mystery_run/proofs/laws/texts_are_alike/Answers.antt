use Rattle.mystery_run.proofs.DecidedLemmas.{differ_alone}
use Rattle.mystery_run.proofs.laws.texts_are_alike.Goals as goal

pub returns : goal.returns
returns c = differ_alone c.jobs_end_in_one_way.ensures.whole c.jobs_end_in_one_way.ensures.to_limit c.a_given_digest_is_one.ensures c.only_watch_numbers_differ.ensures.alike
