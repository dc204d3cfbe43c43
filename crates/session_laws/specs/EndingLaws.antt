-- Jobs end in one way, whatever digest is given: statements that laws prove.
use Rattle.std.specs.Prelude.{◌≡◌, ℕ, List}
use Rattle.digest_facts.specs.Digests.{Digest}
use Rattle.session_rules.specs.Parts.{Part, IsPart}
use Rattle.session_rules.specs.Sessions.{Does, Passes, State}
use Rattle.session_rules.specs.declared.job.Job.{Job}
use Rattle.session_rules.specs.declared.limit.Limit.{Limit}
use Rattle.session_rules.specs.JobTexts.{IsText, IsTextToLimit}
use Rattle.text_rows.specs.TextsOfParts.{AreTexts}
use Rattle.trace_types.specs.Segments.{SegmentName}

-- a job that is carried out prints one list of parts and leaves one state
abbrev pub JobDoesOneThing : Type 0
JobDoesOneThing = (workers : ℕ) (job : Job) (s next other : State) (parts others : List Part)
    → Does workers job s parts next → Does workers job s others other
    → (parts ≡ others) × (next ≡ other)

-- a job that is carried out passes no limit
abbrev pub JobPassesNoLimit : Type 0
JobPassesNoLimit = (workers : ℕ) (job : Job) (s next : State) (parts : List Part) (limit : Limit)
    → Does workers job s parts next → Passes job s limit → ⊥

-- a job passes one limit
abbrev pub JobPassesOneLimit : Type 0
JobPassesOneLimit = (job : Job) (s : State) (limit other : Limit)
    → Passes job s limit → Passes job s other → limit ≡ other

-- both are texts of the same parts
abbrev pub AreAlike : List ℕ → List ℕ → Type 0
AreAlike text other =
    (parts : List Part) × AreTexts IsPart parts text × AreTexts IsPart parts other

-- jobs that have a whole text do not stop at a limit
abbrev pub WholeStopsAtNoLimit : Type 0
WholeStopsAtNoLimit = (workers : ℕ) (given : Digest SegmentName (List ℕ)) (jobs : List Job)
    (last : State) (limit : Limit) (text other : List ℕ) → IsText workers given jobs last text
    → IsTextToLimit workers given jobs limit other → ⊥

-- jobs stop at one limit
abbrev pub JobsStopAtOneLimit : Type 0
JobsStopAtOneLimit = (workers : ℕ) (given : Digest SegmentName (List ℕ)) (jobs : List Job)
    (limit other : Limit) (text also : List ℕ) → IsTextToLimit workers given jobs limit text
    → IsTextToLimit workers given jobs other also → limit ≡ other

-- jobs leave one state, and their whole texts are alike
abbrev pub WholeTextsAreAlike : Type 0
WholeTextsAreAlike = (workers : ℕ) (given : Digest SegmentName (List ℕ)) (jobs : List Job)
    (last end : State) (text other : List ℕ) → IsText workers given jobs last text
    → IsText workers given jobs end other → (last ≡ end) × AreAlike text other

-- their texts up to a limit are alike
abbrev pub TextsToLimitAreAlike : Type 0
TextsToLimitAreAlike = (workers : ℕ) (given : Digest SegmentName (List ℕ)) (jobs : List Job)
    (limit : Limit) (text other : List ℕ) → IsTextToLimit workers given jobs limit text
    → IsTextToLimit workers given jobs limit other → AreAlike text other
