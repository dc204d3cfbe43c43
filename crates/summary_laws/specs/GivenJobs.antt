-- The given digest stays what it was, whatever jobs a session carries out: a statement that a law
-- proves.
use Rattle.std.specs.Prelude.{◌≡◌, ℕ, List}
use Rattle.digest_facts.specs.Digests.{Digest}
use Rattle.session_rules.specs.Parts.{Part}
use Rattle.session_rules.specs.Sessions.{Leads, State, first_state}
use Rattle.session_rules.specs.declared.job.Job.{Job}
use Rattle.trace_types.specs.Segments.{SegmentName}

-- in whatever state jobs leave a session it has the digest that was given to it
abbrev pub TheGivenDigestStays : Type 0
TheGivenDigestStays = (workers : ℕ) (given : Digest SegmentName (List ℕ)) (jobs : List Job)
    (parts : List Part) (last : State) → Leads workers jobs (first_state given) parts last
    → last.given ≡ given
