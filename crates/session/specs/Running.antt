-- How a run of jobs under a given digest ends, and what it wrote.
use Rattle.std.specs.Prelude.{◌≡◌, ℕ, List, Option}
use Rattle.std.specs.Io.KnownBytes.{append_known}
use Rattle.digest_facts.specs.Digests.{Digest}
use Rattle.mystery_io.specs.Prefixes.{AppendsPrefix}
use Rattle.session_rules.specs.Sessions.{State}
use Rattle.session_rules.specs.declared.job.Job.{Job}
use Rattle.session_rules.specs.declared.limit.Limit.{Limit}
use Rattle.session_rules.specs.JobTexts.{IsText, IsTextToLimit, IsTextOfFirst}
use Rattle.trace_types.specs.Segments.{SegmentName}
use Rattle.session.specs.declared.command_fault.CommandFault.{CommandFault}
use Rattle.session.specs.declared.command_fault.CommandFault.TheVariants.{Memory, Write, Over}

-- a text of the jobs was written
abbrev pub WritesWhole : ℕ → Digest SegmentName (List ℕ) → List Job → Option (List ℕ)
    → Option (List ℕ) → Type 0
WritesWhole workers given jobs before now =
    (last : State) × (text : List ℕ) × IsText workers given jobs last text
    × (now ≡ append_known before text)

-- a text of the jobs before one that passes this limit was written
abbrev pub WritesToLimit : ℕ → Digest SegmentName (List ℕ) → List Job → Limit → Option (List ℕ)
    → Option (List ℕ) → Type 0
WritesToLimit workers given jobs limit before now =
    (text : List ℕ) × IsTextToLimit workers given jobs limit text
    × (now ≡ append_known before text)

-- a prefix of a text of the first parts of the first jobs was written
abbrev pub WritesFirst : ℕ → Digest SegmentName (List ℕ) → List Job → Option (List ℕ)
    → Option (List ℕ) → Type 0
WritesFirst workers given jobs before now =
    (text : List ℕ) × IsTextOfFirst workers given jobs text × AppendsPrefix before now text

-- what a run of jobs wrote that ended with a fault
abbrev pub EndsIn : CommandFault → ℕ → Digest SegmentName (List ℕ) → List Job → Option (List ℕ)
    → Option (List ℕ) → Type 0
EndsIn Memory workers given jobs before now = WritesFirst workers given jobs before now
EndsIn Write workers given jobs before now = WritesFirst workers given jobs before now
EndsIn (Over limit) workers given jobs before now =
    WritesToLimit workers given jobs limit before now
