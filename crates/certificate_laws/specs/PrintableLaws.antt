-- The traces that a session keeps of an input are printable, and refute few relations: statements
-- that laws prove.
use Rattle.std.specs.Prelude.{◌≡◌, ℕ, ◌<◌, ◌≤◌, ◌^◌, List, ◌++◌, All, Ok, length, ⊤}
use Rattle.digest_facts.specs.Digests.{empty_digest}
use Rattle.event_lines.specs.InputLines.{lines_said}
use Rattle.event_lines.specs.declared.line.Line.{Line}
use Rattle.event_lines.specs.declared.line.Line.TheVariants.{Control, Event}
use Rattle.session_rules.specs.Jobs.{IsNoAdd, jobs_of}
use Rattle.session_rules.specs.Parts.{Part}
use Rattle.session_rules.specs.Refutations.{AreRefutations, Refutations, matters_of}
use Rattle.session_rules.specs.Sessions.{Leads, State, first_state}
use Rattle.session_rules.specs.declared.job.Job.{Job}
use Rattle.certificate_laws.specs.Printable.{IsPrintable}

-- a control line
abbrev pub IsControl : Line → Type 0
IsControl (Event event) = ⊥
IsControl (Control line command) = ⊤

-- a session to which nothing is given carries out the lines of an input, further control lines and
-- then jobs that add nothing, and this is its last state
pub record IsLastState (input : List ℕ) (lines : List Line) (last : State) : Type 0 where
  pub said : lines_said input ≡ Ok lines
  pub more : List Line
  pub further : All IsControl more
  pub after : List Job
  pub no_adds : All IsNoAdd after
  pub workers : ℕ
  pub parts : List Part
  pub led : Leads workers (jobs_of (lines ++ more) ++ after) (first_state empty_digest) parts last

-- the traces that are then kept are printable
abbrev pub KeptTracesArePrintable : Type 0
KeptTracesArePrintable = (input : List ℕ) (lines : List Line) (last : State)
    → IsLastState input lines last → All IsPrintable last.kept

-- and there are no more of them than lines
abbrev pub FewTracesAreKept : Type 0
FewTracesAreKept = (input : List ℕ) (lines : List Line) (last : State)
    → IsLastState input lines last → length last.kept ≤ length lines

-- the kept traces refute fewer than 2^32 relations
abbrev pub FewRelationsAreRefuted : Type 0
FewRelationsAreRefuted = (input : List ℕ) (lines : List Line) (last : State)
    (refuted : Refutations)
    → IsLastState input lines last → AreRefutations last.kept refuted
    → length (matters_of refuted) < 2 ^ 32
