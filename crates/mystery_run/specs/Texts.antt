-- The text of a work, whole and cut short.
use Rattle.std.specs.Prelude.{ℕ, ◌≡◌, List, None, Some}
use Rattle.digest_facts.specs.Digests.{Digest}
use Rattle.digest_facts.specs.Tables.{Table}
use Rattle.digest_merging.specs.Limits.{limit_passed}
use Rattle.digest_merging.specs.Merges.{IsGivenBy}
use Rattle.digest_merging.specs.declared.digest_limit.DigestLimit.{DigestLimit}
use Rattle.session_rules.specs.JobTexts.{IsText, IsTextToLimit, IsTextOfFirst}
use Rattle.session_rules.specs.Sessions.{State}
use Rattle.session_rules.specs.declared.limit.Limit.{Limit}
use Rattle.trace_types.specs.Segments.{SegmentName}
use Rattle.mystery_run.specs.ReplayTexts.{replay_text}
use Rattle.mystery_run.specs.Works.{Work, Jobs, Steps}

-- P holds of the digest that these tables give, and it passes no limit
pub record OfGiven (tables : List (Table SegmentName (List ℕ)))
    (P : Digest SegmentName (List ℕ) → Type 0) : Type 0 where
  pub given : Digest SegmentName (List ℕ)
  pub is : IsGivenBy tables given
  pub fits : limit_passed given ≡ None
  pub holds : P given

-- the bytes are a text of the work
abbrev pub IsTextOf : ℕ → Work → List ℕ → Type 0
IsTextOf workers (Jobs tables jobs) text =
    OfGiven tables (λ given. (last : State) × IsText workers given jobs last text)
IsTextOf workers (Steps file) text = text ≡ replay_text file

-- the bytes are a text of the work up to a job that passes this limit
abbrev pub IsTextUpTo : ℕ → Work → Limit → List ℕ → Type 0
IsTextUpTo workers (Jobs tables jobs) limit text =
    OfGiven tables (λ given. IsTextToLimit workers given jobs limit text)
IsTextUpTo workers (Steps file) limit text = ⊥

-- the bytes are a text of the first parts of the work; the text of a replay is one part
abbrev pub IsTextOfParts : ℕ → Work → List ℕ → Type 0
IsTextOfParts workers (Jobs tables jobs) text =
    OfGiven tables (λ given. IsTextOfFirst workers given jobs text)
IsTextOfParts workers (Steps file) text = text ≡ replay_text file

-- the digest that is given to the work passes this limit
abbrev pub IsGivenOver : Work → DigestLimit → Type 0
IsGivenOver (Jobs tables jobs) limit =
    (given : Digest SegmentName (List ℕ)) × IsGivenBy tables given
    × (limit_passed given ≡ Some limit)
IsGivenOver (Steps file) limit = ⊥
