-- The text of the jobs of an input under a given digest, whole and cut short.
use Rattle.std.specs.Prelude.{◌≡◌, ℕ, ◌++◌, ◌∷◌, List}
use Rattle.digest_facts.specs.Digests.{Digest}
use Rattle.session_rules.specs.Parts.{Part, IsPart}
use Rattle.session_rules.specs.Sessions.{State, first_state, Leads, Passes}
use Rattle.session_rules.specs.declared.job.Job.{Job}
use Rattle.session_rules.specs.declared.limit.Limit.{Limit}
use Rattle.text_rows.specs.TextsOfParts.{AreTexts}
use Rattle.trace_types.specs.Segments.{SegmentName}

-- the bytes are a text of the jobs, which leave a session in this state
pub record IsText (workers : ℕ) (given : Digest SegmentName (List ℕ)) (jobs : List Job)
    (last : State) (text : List ℕ) : Type 0 where
  pub parts : List Part
  pub led : Leads workers jobs (first_state given) parts last
  pub told : AreTexts IsPart parts text

-- the bytes are a text of the jobs before one that passes this limit
pub record IsTextToLimit (workers : ℕ) (given : Digest SegmentName (List ℕ)) (jobs : List Job)
    (limit : Limit) (text : List ℕ) : Type 0 where
  pub done : List Job
  pub job : Job
  pub rest : List Job
  pub split : jobs ≡ done ++ (job ∷ rest)
  pub last : State
  pub told : IsText workers given done last text
  pub passes : Passes job last limit

-- the bytes are a text of the first parts of the first jobs
pub record IsTextOfFirst (workers : ℕ) (given : Digest SegmentName (List ℕ)) (jobs : List Job)
    (text : List ℕ) : Type 0 where
  pub done : List Job
  pub rest : List Job
  pub split : jobs ≡ done ++ rest
  pub last : State
  pub first : List Part
  pub left : List Part
  pub led : Leads workers done (first_state given) (first ++ left) last
  pub told : AreTexts IsPart first text
