use Rattle.session_laws.proofs.EndingLemmas.{limits_alike, limits_one, texts_alike, whole_no_limit}
use Rattle.session_laws.proofs.laws.jobs_end_in_one_way.Goals as goal

pub returns : goal.returns
returns c =
    let job = c.a_job_does_one_thing.ensures in
    record {
      no_limit = whole_no_limit job.one job.no_limit job.one_limit;
      one_limit = limits_one job.one job.no_limit job.one_limit;
      whole = texts_alike job.one job.no_limit job.one_limit;
      to_limit = limits_alike job.one job.no_limit job.one_limit;
    }
