-- The jobs with which an input may end that no control line asks for.
use Rattle.std.specs.Prelude.{◌≡◌}
use Rattle.session_rules.specs.ReadyJobs.{IsReady, requests_in}
use Rattle.session_rules.specs.declared.job.Job.{Job}

-- a session carries out the job, and it brings no request
pub record IsLastJob (job : Job) : Type 0 where
  pub ready : IsReady job
  pub few : requests_in job ≡ 0
